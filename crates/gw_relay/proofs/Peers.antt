-- A configuration in which no peer appears twice gives tables in which none does.
use Rattle.std.proofs.Common.{◌≡◌, ◌∙◌, sym, ap, refl, ℕ, zero, suc, ◌<◌, Bool, true, false, ◌||◌, nat_eq, List, [], ◌∷◌, length, get_or, eq-eqb, arith}
use Rattle.std.specs.List.{AllByRecursion, list_any}
use Rattle.gw_addr.specs.declared.bip.BipAddr.{BipAddr}
use Rattle.gw_addr.specs.declared.entry.BdtEntry.{BdtEntry}
use Rattle.gw_tables.specs.bdt_fdt.Peers.{has_twice, is_of}
use Rattle.gw_tables.specs.bdt_fdt.Registrations.{same}
use Rattle.gw_tables.proofs.bdt_fdt_lemmas.Same.{equal_of}
use Rattle.gw_configuration.specs.Configuration.{Configuration}
use Rattle.gw_configuration.specs.Duplicates.{has_duplicates, key, peer_addresses}
use Rattle.gw_configuration.specs.Duplicates as text
use Rattle.gw_configuration.specs.declared.port.Port.{Port}
use Rattle.gw_relay.proofs.Configured.{or_left, or_right}

-- no entry of an address has another key
apart : (b : Bool) (a e : BipAddr) → same a e ≡ b → nat_eq (key a) (key e) ≡ false → b ≡ false
apart false a e is other = refl
apart true a e is other =
    sym (eq-eqb (key a) (key a) refl) ∙ ap (nat_eq (key a)) (ap key (equal_of a e is)) ∙ other

unlike : (a : BipAddr) (entry : BdtEntry) → nat_eq (key a) (key entry.address) ≡ false → is_of a entry ≡ false
unlike a entry other = apart (is_of a entry) a entry.address refl other

neither : (a b : Bool) → a ≡ false → b ≡ false → (a || b) ≡ false
neither true b e f = e
neither false b e f = f

not_among : (a : BipAddr) (entries : List BdtEntry) → list_any (nat_eq (key a)) (peer_addresses entries) ≡ false
    → list_any (is_of a) entries ≡ false
not_among a [] e = refl
not_among a (entry ∷ entries) e =
    neither (is_of a entry) (list_any (is_of a) entries)
    (unlike a entry (or_left (nat_eq (key a) (key entry.address)) (list_any (nat_eq (key a)) (peer_addresses entries)) e))
    (not_among a entries (or_right (nat_eq (key a) (key entry.address)) (list_any (nat_eq (key a)) (peer_addresses entries)) e))

peers_once : (entries : List BdtEntry) → text.has_twice nat_eq (peer_addresses entries) ≡ false → has_twice entries ≡ false
peers_once [] e = refl
peers_once (entry ∷ entries) e =
    neither (list_any (is_of entry.address) entries) (has_twice entries)
    (not_among entry.address entries (or_left (list_any (nat_eq (key entry.address)) (peer_addresses entries))
    (text.has_twice nat_eq (peer_addresses entries)) e))
    (peers_once entries (or_right (list_any (nat_eq (key entry.address)) (peer_addresses entries))
    (text.has_twice nat_eq (peer_addresses entries)) e))

each_once : (ports : List Port) → list_any (λ port. text.has_twice nat_eq (peer_addresses port.peers)) ports ≡ false
    → AllByRecursion (λ p. has_twice p.peers ≡ false) ports
each_once [] e = tt
each_once (port ∷ ports) e = (
  peers_once port.peers (or_left (text.has_twice nat_eq (peer_addresses port.peers))
      (list_any (λ p. text.has_twice nat_eq (peer_addresses p.peers)) ports) e),
  each_once ports (or_right (text.has_twice nat_eq (peer_addresses port.peers))
      (list_any (λ p. text.has_twice nat_eq (peer_addresses p.peers)) ports) e),
)

pub all_peers_once : (c : Configuration) → has_duplicates c ≡ false → AllByRecursion (λ p. has_twice p.peers ≡ false) c.ports
unfolding has_duplicates
all_peers_once c e = each_once c.ports (or_left _ _ (or_right _ _ (or_right _ _ e)))

-- that of one port
pub once_at : (ports : List Port) (i : ℕ) (port : Port) → i < length ports → port ≡ get_or ports i port
    → AllByRecursion (λ p. has_twice p.peers ≡ false) ports → has_twice port.peers ≡ false
once_at [] i port h is all = absurd (omega arith)
once_at (first ∷ ports) zero port h is all = ap (λ (p : Port). has_twice p.peers) is ∙ all.0
once_at (first ∷ ports) (suc i) port h is all = once_at ports i port (omega arith) is all.1
