-- What is said of ports is so.
use Rattle.std.proofs.Common.{◌≡◌, ◌∙◌, refl, sym, ap, ap₂, ℕ, ◌+◌, Bool, true, false, not, ◌&&◌, nat_eq, List, []}
use Rattle.std.proofs.Common.{◌∷◌, length, Option, Some, None}
use Rattle.std.specs.Prelude.{find, is_some, map, if◌then◌else◌}
use Rattle.std.specs.List.{list_any}
use Rattle.std.proofs.lemmas.Bool.{and_from, and_parts, eqb-true}
use Rattle.std.proofs.lemmas.Cmp.{nat_list_eq_equiv}
use Rattle.std.proofs.lemmas.List.{length-map}
use Rattle.std.proofs.lemmas.List.Sums.{sum_by-cons}
use Rattle.gw_addr.specs.declared.bip.BipAddr.{BipAddr}
use Rattle.gw_addr.specs.declared.entry.BdtEntry.{BdtEntry}
use Rattle.gw_tables.proofs.bdt_fdt_lemmas.Same.{equal_of, own}
use Rattle.gw_tables.specs.bdt_fdt.Kept.{restored, row_of}
use Rattle.gw_tables.specs.bdt_fdt.Registrations.{same as same_address}
use Rattle.gw_tables.specs.declared.bdt_fdt.tables.PortTables.{PortTables}
use Rattle.gw_configuration.specs.declared.port.Port.{Port as ConfiguredPort}
use Rattle.gw_state.specs.Carried.{are_same, is_port, manager_tables, no_tables, same_entry, tables_carried, tables_from}
use Rattle.gw_state.specs.declared.port.SavedPort.{SavedPort}
use Rattle.gw_state_words.proofs.takeover_lemmas.Firsts.{absent, firsts}
use Rattle.gw_state_words.specs.declared.takeover.finding.TableFate.{TableFate}
use Rattle.gw_state_words.specs.declared.takeover.finding.TableFate.TheVariants as tables
use Rattle.gw_state_words.specs.takeover.Findings.{device_count, devices_of, is_same_port, table_fate}
use Rattle.gw_state_words.specs.takeover.Laws.{DevicesAreCounted, IsTableAsSaid, LostPortsAreLost, PortsAreAsSaid, devices_by}

same_entries : (entries : List BdtEntry) → are_same entries entries ≡ true
same_entries [] = refl
same_entries (e ∷ es) =
    and_from (same_entry e e) (are_same es es)
    (and_from _ _ (own e.address) (nat_list_eq_equiv.refl e.mask)) (same_entries es)

-- the rows and the table of peers that a port has by what is said of it
abbrev Said : TableFate → ConfiguredPort → SavedPort → PortTables → Type 0
Said fate p s t = (t.fdt.rows ≡ map row_of (devices_by fate s)) × IsTableAsSaid fate p s t.bdt

said : (ticks : ℕ) (p : ConfiguredPort) (s : SavedPort) → Said (table_fate p s) p s (tables_from ticks p (Some s))
said ticks p s = by (is_some p.bbmd) (are_same s.entries p.peers) (are_same s.peers p.peers) (are_same s.entries s.peers) refl
  where
    by : (beside a b c : Bool) → are_same s.entries p.peers ≡ a
        → Said
        (if beside then tables.OtherManager
        else if a then tables.AsConfigured else if b then tables.TakenOver else if c then tables.AsConfigured else tables.OtherPeers)
        p s
        (if beside then no_tables ticks
        else record { bdt = if b then s.entries else p.peers; fdt = restored ticks s.devices })
    by true a b c e = (refl, refl)
    by false true true c e = (refl, e)
    by false true false c e = (refl, same_entries p.peers)
    by false false true c e = (refl, (refl, e))
    by false false false true e = (refl, same_entries p.peers)
    by false false false false e = (refl, (refl, e))

anew : (ticks : ℕ) (p : ConfiguredPort) (beside : Bool)
    → ((if beside then no_tables ticks else manager_tables ticks p None).fdt.rows ≡ [])
    × ((if beside then no_tables ticks else manager_tables ticks p None).bdt ≡ (if beside then [] else p.peers))
anew ticks p true = (refl, refl)
anew ticks p false = (refl, refl)

pub ports_are_as_said : PortsAreAsSaid
ports_are_as_said ticks number p None = anew ticks p (is_some p.bbmd)
ports_are_as_said ticks number p (Some s) = let tables = said ticks p s in (refl, tables.0, tables.1)

-- ---- which ports are lost

alike : (s : SavedPort) (p : ConfiguredPort) (other : SavedPort) → is_port p s ≡ true → is_port p other ≡ is_same_port s other
alike s p other e =
    let parts = and_parts (nat_eq p.network s.network) (same_address p.address s.address) e in
    ap₂ (λ (n : ℕ) (a : BipAddr). nat_eq n other.network && same_address a other.address)
    (eqb-true p.network s.network parts.0) (equal_of p.address s.address parts.1)

pub lost_ports_are_lost : LostPortsAreLost
lost_ports_are_lost ports before s =
    absent (list_any (λ p. is_port p s) ports) (list_any (is_same_port s) before)
    ∙ ap not (sym (firsts is_port (is_same_port s) before s (alike s) ports))

-- ---- how many devices are kept

manager_devices : (ticks : ℕ) (p : ConfiguredPort) (s : Option SavedPort) → device_count s ≡ length (manager_tables ticks p s).fdt.rows
manager_devices ticks p None = refl
manager_devices ticks p (Some s) = sym (length-map s.devices row_of)

devices_in : (ticks : ℕ) (p : ConfiguredPort) (s : Option SavedPort) → devices_of p s ≡ length (tables_from ticks p s).fdt.rows
devices_in ticks p s = by (is_some p.bbmd)
  where
    by : (beside : Bool) → (if beside then 0 else device_count s)
        ≡ length (if beside then no_tables ticks else manager_tables ticks p s).fdt.rows
    by true = refl
    by false = manager_devices ticks p s

pub devices_are_counted : DevicesAreCounted
devices_are_counted ticks [] saved = refl
devices_are_counted ticks (p ∷ ports) saved =
    let rows = λ (t : PortTables). length t.fdt.rows in
    sum_by-cons (λ (q : ConfiguredPort). devices_of q (find (is_port q) saved)) p ports
    ∙ ap₂ (λ (a b : ℕ). a + b) (devices_in ticks p (find (is_port p) saved)) (devices_are_counted ticks ports saved)
    ∙ sym (sum_by-cons rows (tables_from ticks p (find (is_port p) saved)) (tables_carried ticks ports saved))
