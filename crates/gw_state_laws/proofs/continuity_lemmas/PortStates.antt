-- The tables of the ports are taken over.
use Rattle.std.proofs.Common.{◌≡◌, ◌∙◌, sym, ap, refl, ℕ, zero, suc, ◌+◌, ◌<◌, ◌≤◌, arith, Bool, true, false, not, ◌&&◌, ◌||◌, ◌==◌, List, [], ◌∷◌, ◌++◌, length, map, nat_eq, if◌then◌else◌, Option, Some, None, append_assoc}
use Rattle.std.specs.Prelude.{find, is_some, slice_get}
use Rattle.std.specs.Cmp.Lexicographic.{pointwise}
use Rattle.std.specs.Cmp.{nat_eq_equiv}
use Rattle.std.specs.List.{AllByRecursion, list_any}
use Rattle.std.specs.Option.{option_and_then}
use Rattle.std.proofs.lemmas.Bool.{and_from, and_parts, eqb-true, or_parts}
use Rattle.std.proofs.lemmas.Cmp.{nat_list_eq_equiv}
use Rattle.gw_addr.specs.declared.entry.BdtEntry.{BdtEntry}
use Rattle.gw_tables.specs.bdt_fdt.Registrations.{Registrations, Registered, emptied}
use Rattle.gw_tables.specs.bdt_fdt.Registrations.{same as same_address}
use Rattle.gw_tables.proofs.bdt_fdt_lemmas.Same.{own}
use Rattle.gw_configuration.specs.Duplicates.{has_twice}
use Rattle.gw_configuration.specs.Subnet.{Subnet}
use Rattle.gw_configuration.specs.declared.port.Port.{Port as ConfiguredPort}
use Rattle.gw_relay.specs.Initial.{port_of}
use Rattle.gw_relay.specs.declared.port.Port.{Port}
use Rattle.gw_relay.specs.declared.port.PortState.{PortState}
use Rattle.gw_tables.specs.bdt_fdt.Kept.{kept, row_of}
use Rattle.gw_state.specs.Saved.{origin_port, saved_port}
use Rattle.gw_state.specs.declared.port.SavedPort.{SavedPort}
use Rattle.gw_relay.specs.Initial.{port_state_with, port_states_with}
use Rattle.gw_relay.specs.Neighbours.{are_bare, is_bare}
use Rattle.gw_relay.specs.State.{is_manager}
use Rattle.gw_tables.specs.declared.bdt_fdt.tables.PortTables.{PortTables}
use Rattle.gw_state.proofs.Carrying.{seen as tables_seen}
use Rattle.gw_state.specs.Carried.{is_port, manager_tables, no_tables, number_now, port_then, same_entry, tables_carried, tables_from}
use Rattle.gw_core.specs.Resumed.{saved_ports}
use Rattle.gw_state_laws.specs.continuity.Laws.{HaveNoTables, TablesAgree}
use Rattle.gw_state_laws.specs.continuity.StateOf.{AreStatesOf}
use Rattle.gw_state_laws.proofs.continuity_lemmas.Found.{AllApart, all_push, find_after}

-- what is saved of a port
abbrev pub port_saved : ConfiguredPort → PortState → SavedPort
port_saved p state = saved_port (origin_port p) state.bdt state.fdt.rows

abbrev pub ports_saved : List ConfiguredPort → List PortState → List SavedPort
ports_saved ports states = saved_ports (map origin_port ports) states

-- ---- a port is itself, and no other

same_entries : (entries : List BdtEntry) → pointwise same_entry entries entries ≡ true
same_entries [] = refl
same_entries (e ∷ es) =
    and_from (same_entry e e) (pointwise same_entry es es)
    (and_from _ _ (own e.address) (nat_list_eq_equiv.refl e.mask)) (same_entries es)

is_own : (p : ConfiguredPort) (state : PortState) → is_port p (port_saved p state) ≡ true
is_own p state = and_from (nat_eq p.network p.network) _ (nat_eq_equiv.refl p.network) (own p.address)

-- a port of another network isn't it
other : (q p : ConfiguredPort) (state : PortState) → nat_eq p.network q.network ≡ false → is_port q (port_saved p state) ≡ false
other q p state ne = ap (λ b. b && same_address q.address p.address) (nat_eq_equiv.symm q.network p.network ∙ ne)

others : (p : ConfiguredPort) (state : PortState) (ports : List ConfiguredPort)
    → list_any (nat_eq p.network) (map (λ q. q.network) ports) ≡ false
    → AllByRecursion (λ q. is_port q (port_saved p state) ≡ false) ports
others p state [] none = tt
others p state (q ∷ ports) none =
    let parts = or_parts (nat_eq p.network q.network) (list_any (nat_eq p.network) (map (λ q. q.network) ports)) none in
    (other q p state parts.0, others p state ports parts.1)

-- ---- each table is taken over

rows_back : (rows : Registered) → map row_of (map kept rows) ≡ rows
rows_back [] = refl
rows_back (row ∷ rows) = ap (λ later. row ∷ later) (rows_back rows)

abbrev table : ℕ → Registered → Registrations
table ticks rows = record { ticks = ticks; rows = rows }

abbrev link_of_parts : Port → List Subnet → List BdtEntry → Registrations → PortState
link_of_parts port stations bdt fdt = record { port = port; stations = stations; bdt = bdt; fdt = fdt }

-- a list without an element
length_none : {A : Type 0} (xs : List A) → (length xs == 0) ≡ true → xs ≡ []
length_none [] is = refl
length_none (x ∷ xs) is =
    let none : suc (length xs) ≡ 0 = eqb-true (suc (length xs)) 0 is in absurd (omega (arith, none))

-- a port that is no manager has neither a peer nor a foreign device
bare_parts : (manager none : Bool) → manager ≡ false → (manager || none) ≡ true → none ≡ true
bare_parts false none is bare = bare
bare_parts true none is bare = absurd cc

pub bare_tables : (number : ℕ) (p : ConfiguredPort) (state : PortState) → state.port ≡ port_of number p → is_bare state ≡ true
    → is_some p.bbmd ≡ true → (state.bdt ≡ []) × (state.fdt.rows ≡ [])
bare_tables number p state port bare beside =
    let manager : is_manager state.port ≡ false = ap is_manager port ∙ ap not beside in
    let parts = and_parts (length state.bdt == 0) (length state.fdt.rows == 0) (bare_parts (is_manager state.port) _ manager bare) in
    (length_none state.bdt parts.0, length_none state.fdt.rows parts.1)

taken_over : (since number : ℕ) (p : ConfiguredPort) (state : PortState) → state.port ≡ port_of number p → state.stations ≡ p.stations
    → state.fdt.ticks ≡ since → is_bare state ≡ true
    → port_state_with number p (tables_from since p (Some (port_saved p state))) ≡ state
taken_over since number p state port stations ticks bare = by (is_some p.bbmd) refl
  where
    tables : Bool → PortTables
    tables b = if b then no_tables since else manager_tables since p (Some (port_saved p state))

    by : (b : Bool) → is_some p.bbmd ≡ b
        → link_of_parts (port_of number p) p.stations (if b then [] else (tables b).bdt) (if b then emptied (tables b).fdt else (tables b).fdt)
        ≡ state
    by true beside =
        let none = bare_tables number p state port bare beside in
        λ j. link_of_parts (sym port j) (sym stations j) (sym none.0 j) (table (sym ticks j) (sym none.1 j))
    by false beside =
        λ j. link_of_parts (sym port j) (sym stations j) (if same_entries p.peers j then state.bdt else p.peers)
        (table (sym ticks j) (rows_back state.fdt.rows j))

-- the first of bare ports, and the others
first_bare : (number : ℕ) (state : PortState) (states : List PortState) → are_bare number (state ∷ states) ≡ true
    → (is_bare state ≡ true) × (are_bare (number + 1) states ≡ true)
first_bare number state states bare =
    let parts = and_parts ((state.port.number == number) && is_bare state) (are_bare (number + 1) states) bare in
    ((and_parts (state.port.number == number) (is_bare state) parts.0).1, parts.1)

pub ports_back : (since number : ℕ) (ports : List ConfiguredPort) (states : List PortState) (before : List SavedPort)
    → AreStatesOf since number ports states → are_bare number states ≡ true → AllApart is_port ports before
    → has_twice nat_eq (map (λ p. p.network) ports) ≡ false
    → port_states_with number ports (tables_carried since ports (before ++ ports_saved ports states)) ≡ states
ports_back since number [] [] before are bare apart once = refl
ports_back since number [] (state ∷ states) before are bare apart once = absurd are
ports_back since number (p ∷ ports) [] before are bare apart once = absurd are
ports_back since number (p ∷ ports) (state ∷ states) before are bare apart once =
    let empty = first_bare number state states bare in
    let s = port_saved p state in
    let rest = ports_saved ports states in
    let parts = or_parts (list_any (nat_eq p.network) (map (λ q. q.network) ports)) (has_twice nat_eq (map (λ q. q.network) ports)) once in
    let found : find (is_port p) (before ++ s ∷ rest) ≡ Some s = find_after is_port p before s rest apart.0 (is_own p state) in
    let later = ports_back since (number + 1) ports states (before ++ s ∷ []) are.3 empty.1
    (all_push is_port ports before s apart.1 (others p state ports parts.0)) parts.1 in
    (λ j. port_state_with number p (tables_from since p (found j)) ∷ port_states_with (number + 1) ports (tables_carried since ports (sym (append_assoc before (s ∷ []) rest) j)))
    ∙ (λ j. taken_over since number p state are.0 are.1 are.2 empty.0 j ∷ later j)

-- ---- each port has the number that it had

-- no port of this network is saved
abbrev NotHere : ConfiguredPort → List SavedPort → Type 0
NotHere p saved = AllByRecursion (λ s. is_port p s ≡ false) saved

not_here : (p : ConfiguredPort) (ports : List ConfiguredPort) (states : List PortState)
    → list_any (nat_eq p.network) (map (λ q. q.network) ports) ≡ false → NotHere p (ports_saved ports states)
not_here p [] states none = tt
not_here p (q ∷ ports) [] none = tt
not_here p (q ∷ ports) (state ∷ states) none =
    let parts = or_parts (nat_eq p.network q.network) (list_any (nat_eq p.network) (map (λ q. q.network) ports)) none in
    (ap (λ b. b && same_address p.address q.address) parts.0, not_here p ports states parts.1)

passed : (number : ℕ) (p : ConfiguredPort) (ports : List ConfiguredPort) (saved : List SavedPort) (i : ℕ) → NotHere p saved
    → option_and_then (number_now number (p ∷ ports)) (slice_get saved i) ≡ option_and_then (number_now (number + 1) ports) (slice_get saved i)
passed number p ports [] i apart = refl
passed number p ports (s ∷ saved) zero apart = ap (λ b. if b then Some number else number_now (number + 1) ports s) apart.0
passed number p ports (s ∷ saved) (suc i) apart = passed number p ports saved i apart.1

numbered : (since number : ℕ) (ports : List ConfiguredPort) (states : List PortState) (i : ℕ)
    → AreStatesOf since number ports states → has_twice nat_eq (map (λ p. p.network) ports) ≡ false → i < length ports
    → option_and_then (number_now number ports) (slice_get (ports_saved ports states) i) ≡ Some (number + i)
numbered since number [] states i are once lt = absurd (omega (arith, lt))
numbered since number (p ∷ ports) [] i are once lt = absurd are
numbered since number (p ∷ ports) (state ∷ states) zero are once lt =
    let same : number ≡ number + 0 = omega arith in
    ap (λ b. if b then Some number else number_now (number + 1) ports (port_saved p state)) (is_own p state) ∙ ap (λ n. Some n) same
numbered since number (p ∷ ports) (state ∷ states) (suc i) are once lt =
    let parts = or_parts (list_any (nat_eq p.network) (map (λ q. q.network) ports)) (has_twice nat_eq (map (λ q. q.network) ports)) once in
    let on : number + 1 + i ≡ number + suc i = omega arith in
    passed number p ports (ports_saved ports states) i (not_here p ports states parts.0)
    ∙ numbered since (number + 1) ports states i are.3 parts.1 (omega (arith, lt))
    ∙ ap (λ n. Some n) on

pub number_back : (since : ℕ) (ports : List ConfiguredPort) (states : List PortState) (number : ℕ)
    → AreStatesOf since 1 ports states → has_twice nat_eq (map (λ p. p.network) ports) ≡ false → 1 ≤ number → number ≤ length ports
    → option_and_then (number_now 1 ports) (port_then (ports_saved ports states) number) ≡ Some number
number_back since ports states zero are once some most = absurd (omega (arith, some))
number_back since ports states (suc i) are once some most =
    let on : 1 + i ≡ suc i = omega arith in
    numbered since 1 ports states i are once (omega (arith, most)) ∙ ap (λ n. Some n) on

-- ---- whatever was saved, these are states of the ports

seen : (since number : ℕ) (p : ConfiguredPort) (s : Option SavedPort)
    → (port_state_with number p (tables_from since p s)).fdt.ticks ≡ since
seen since number p s = by (is_some p.bbmd) (tables_seen since p s)
  where
    by : (b : Bool) → (tables_from since p s).fdt.ticks ≡ since
        → (if b then emptied (tables_from since p s).fdt else (tables_from since p s).fdt).ticks ≡ since
    by true is = is
    by false is = is

pub ports_carried : (since number : ℕ) (ports : List ConfiguredPort) (saved : List SavedPort)
    → AreStatesOf since number ports (port_states_with number ports (tables_carried since ports saved))
ports_carried since number [] saved = tt
ports_carried since number (p ∷ ports) saved =
    (refl, refl, seen since number p (find (is_port p) saved), ports_carried since (number + 1) ports saved)

-- ---- beside another broadcast manager

pub tables_agree : TablesAgree
tables_agree ticks number p s = let same = by (is_some p.bbmd) in record { bdt = same.0; fdt = same.1 }
  where
    tables : Bool → PortTables
    tables b = if b then no_tables ticks else manager_tables ticks p s

    by : (b : Bool) → ((if b then [] else (tables b).bdt) ≡ (tables b).bdt)
        × ((if b then emptied (tables b).fdt else (tables b).fdt) ≡ (tables b).fdt)
    by true = (refl, refl)
    by false = (refl, refl)

pub none_saved : (since number : ℕ) (ports : List ConfiguredPort) (states : List PortState) → AreStatesOf since number ports states
    → are_bare number states ≡ true → HaveNoTables ports (ports_saved ports states)
none_saved since number [] [] are bare = tt
none_saved since number [] (state ∷ states) are bare = absurd are
none_saved since number (p ∷ ports) [] are bare = absurd are
none_saved since number (p ∷ ports) (state ∷ states) are bare =
    let empty = first_bare number state states bare in (
      λ beside.
          let none = bare_tables number p state are.0 empty.0 beside in (none.0, ap (map kept) none.1),
      none_saved since (number + 1) ports states are.3 empty.1,
    )
