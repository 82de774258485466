-- The ports that are saved, with their tables, fit their text.
use Rattle.std.proofs.Common.{◌≡◌, ◌∙◌, sym, ap, refl, ℕ, ◌+◌, ◌<◌, ◌≤◌, arith, Bool, true, false, not, ◌||◌, ◌&&◌, List, [], ◌∷◌, length, map}
use Rattle.std.specs.Prelude.{nat_eq, nat_le}
use Rattle.std.specs.Cmp.{nat_eq_equiv}
use Rattle.std.specs.List.{AllByRecursion, list_all, list_any}
use Rattle.std.proofs.lemmas.Bool.{and_parts, eqb-true, leb-true, ltb-false, not-true, or_parts}
use Rattle.gw_addr.specs.declared.bip.BipAddr.{BipAddr}
use Rattle.gw_addr.specs.declared.entry.BdtEntry.{BdtEntry}
use Rattle.gw_addr.specs.Entry.{IsBdtEntry}
use Rattle.gw_tables.specs.declared.bdt_fdt.kept.KeptDevice.{KeptDevice}
use Rattle.gw_tables.specs.bdt_fdt.Kept.{are_few, are_restorable, is_due, is_of_device, repeat_address}
use Rattle.gw_tables.specs.bdt_fdt.Peers.{has_twice as entry_twice, is_of}
use Rattle.gw_tables.specs.bdt_fdt.Registrations.{same}
use Rattle.gw_tables.proofs.bdt_fdt_lemmas.Same.{equal_of, flipped}
use Rattle.gw_configuration.specs.Duplicates.{has_twice, key, peer_addresses}
use Rattle.gw_configuration.specs.declared.port.Port.{Port as ConfiguredPort}
use Rattle.gw_relay.specs.declared.port.PortState.{PortState}
use Rattle.gw_state.specs.declared.port.SavedPort.{SavedPort}
use Rattle.gw_state_text.specs.Fit.{FitsDevices, FitsEntries, FitsPorts, IsDevice, is_at}
use Rattle.gw_state_text.specs.Items.{AreItems}
use Rattle.gw_state_laws.specs.continuity.StateOf.{AreStatesOf}
use Rattle.gw_state_laws.proofs.continuity_lemmas.PortStates.{ports_saved}
use Rattle.gw_state_laws.specs.restoring.internal.Typed.{IsPort}
use Rattle.gw_state_laws.proofs.restoring_lemmas.Once.{Once, all_fit, apart_first, both, once_by}

-- ---- entries and peers

-- two entries have one address
abbrev pub one_entry : BdtEntry → BdtEntry → Bool
one_entry a b = is_of a.address b

entries_once : (entries : List BdtEntry) → entry_twice entries ≡ false → Once one_entry entries
entries_once [] none = tt
entries_once (e ∷ entries) none =
    let parts = or_parts (list_any (is_of e.address) entries) (entry_twice entries) none in
    (parts.0, entries_once entries parts.1)

-- one address is one key
one_key : (a b : BdtEntry) → one_entry a b ≡ true → nat_eq (key a.address) (key b.address) ≡ true
one_key a b is =
    ap (λ (x : BipAddr). nat_eq (key a.address) (key x)) (sym (equal_of a.address b.address is)) ∙ nat_eq_equiv.refl (key a.address)

peers_once : (peers : List BdtEntry) → has_twice nat_eq (peer_addresses peers) ≡ false → Once one_entry peers
peers_once peers none = once_by one_entry (λ e. key e.address) one_key peers none

entries_fit : (entries : List BdtEntry) → length entries ≤ 64 → AllByRecursion IsBdtEntry entries → Once one_entry entries
    → AreItems FitsEntries 64 entries
entries_fit entries few each once = record {
  few = few;
  fit =
      all_fit one_entry (λ a b. flipped a.address b.address) FitsEntries IsBdtEntry
      (λ before e is none. record { is = is; once = none }) [] entries each once (apart_first one_entry entries);
}

-- ---- devices

-- two devices have one address
abbrev pub one_device : KeptDevice → KeptDevice → Bool
one_device a b = is_of_device a.address b

devices_once : (devices : List KeptDevice) → repeat_address devices ≡ false → Once one_device devices
devices_once [] none = tt
devices_once (d ∷ devices) none =
    let parts = or_parts (list_any (is_of_device d.address) devices) (repeat_address devices) none in
    (parts.0, devices_once devices parts.1)

each_due : (devices : List KeptDevice) → list_all is_due devices ≡ true → AllByRecursion (λ d. is_due d ≡ true) devices
each_due [] due = tt
each_due (d ∷ devices) due =
    let parts = and_parts (is_due d) (list_all is_due devices) due in
    (parts.0, each_due devices parts.1)

devices_fit : (devices : List KeptDevice) → are_restorable devices ≡ true → AllByRecursion IsDevice devices
    → AreItems FitsDevices 128 devices
devices_fit devices restorable each =
    let first = and_parts (are_few devices) (list_all is_due devices && not (repeat_address devices)) restorable in
    let second = and_parts (list_all is_due devices) (not (repeat_address devices)) first.1 in
    let once = devices_once devices (not-true (repeat_address devices) second.1) in
    record {
      few = leb-true (length devices) 128 first.0;
      fit =
          all_fit one_device (λ a b. flipped a.address b.address) FitsDevices (λ d. IsDevice d × (is_due d ≡ true))
          (λ before d is none. record { is = is.0; due = is.1; once = none }) [] devices
          (both IsDevice (λ d. is_due d ≡ true) devices each (each_due devices second.0)) once (apart_first one_device devices);
    }

-- ---- ports

-- two ports are of one network and address
abbrev pub one_port : SavedPort → SavedPort → Bool
one_port a b = is_at a.network a.address b

port_symm : (a b : SavedPort) → one_port a b ≡ one_port b a
port_symm a b = λ j. nat_eq_equiv.symm a.network b.network j && flipped a.address b.address j

one_network : (a b : SavedPort) → one_port a b ≡ true → nat_eq a.network b.network ≡ true
one_network a b is = (and_parts (nat_eq a.network b.network) (same a.address b.address) is).0

port_fits : (before : List SavedPort) (port : SavedPort) → IsPort port × Once one_entry port.peers
    → list_any (one_port port) before ≡ false → FitsPorts before port
port_fits before port is none = record {
  is = is.0.place;
  once = none;
  peers = entries_fit port.peers is.0.few_peers is.0.peers is.1;
  entries =
      entries_fit port.entries (ltb-false 64 (length port.entries) is.0.few_entries) is.0.entries
      (entries_once port.entries is.0.once);
  devices = devices_fit port.devices is.0.restorable is.0.devices;
}

-- the networks of what is saved are those of the ports
networks_saved : (since number : ℕ) (ports : List ConfiguredPort) (states : List PortState) → AreStatesOf since number ports states
    → map (λ s. s.network) (ports_saved ports states) ≡ map (λ p. p.network) ports
networks_saved since number [] states are = refl
networks_saved since number (p ∷ ports) [] are = absurd are
networks_saved since number (p ∷ ports) (state ∷ states) are =
    ap (λ ns. p.network ∷ ns) (networks_saved since (number + 1) ports states are.3)

-- as many are saved as there are
pub length_saved : (since number : ℕ) (ports : List ConfiguredPort) (states : List PortState) → AreStatesOf since number ports states
    → length (ports_saved ports states) ≡ length ports
length_saved since number [] states are = refl
length_saved since number (p ∷ ports) [] are = absurd are
length_saved since number (p ∷ ports) (state ∷ states) are = omega (arith, length_saved since (number + 1) ports states are.3)

-- the peers that were configured are those of the ports
saved_peers_once : (ports : List ConfiguredPort) (states : List PortState)
    → list_any (λ p. has_twice nat_eq (peer_addresses p.peers)) ports ≡ false
    → AllByRecursion (λ s. Once one_entry s.peers) (ports_saved ports states)
saved_peers_once [] states none = tt
saved_peers_once (p ∷ ports) [] none = tt
saved_peers_once (p ∷ ports) (state ∷ states) none =
    let parts =
    or_parts (has_twice nat_eq (peer_addresses p.peers)) (list_any (λ q. has_twice nat_eq (peer_addresses q.peers)) ports) none in
    (peers_once p.peers parts.0, saved_peers_once ports states parts.1)

pub ports_fit : (since : ℕ) (ports : List ConfiguredPort) (states : List PortState) → AreStatesOf since 1 ports states
    → has_twice nat_eq (map (λ p. p.network) ports) ≡ false
    → list_any (λ p. has_twice nat_eq (peer_addresses p.peers)) ports ≡ false
    → length (ports_saved ports states) ≤ 8 → AllByRecursion IsPort (ports_saved ports states)
    → AreItems FitsPorts 8 (ports_saved ports states)
ports_fit since ports states are once peers few each =
    let saved = ports_saved ports states in
    let networks = ap (has_twice nat_eq) (networks_saved since 1 ports states are) ∙ once in
    record {
      few = few;
      fit =
          all_fit one_port port_symm FitsPorts (λ s. IsPort s × Once one_entry s.peers) port_fits [] saved
          (both IsPort (λ s. Once one_entry s.peers) saved each (saved_peers_once ports states peers))
          (once_by one_port (λ s. s.network) one_network saved networks) (apart_first one_port saved);
    }
