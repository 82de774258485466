-- That a gateway that is stopped and resumed goes on as if it had never stopped.
use Rattle.std.specs.Prelude.{◌≡◌, ⊤, ℕ, true, false, is_some, List, [], ◌∷◌, map, Option}
use Rattle.gw_addr.specs.declared.entry.BdtEntry.{BdtEntry}
use Rattle.gw_configuration.specs.Configuration.{Configuration}
use Rattle.gw_core.specs.History.{IsStateAfter, next, run_from, state_after, state_from}
use Rattle.gw_core.specs.State.{State}
use Rattle.gw_core.specs.declared.event.Counts.{Counts}
use Rattle.gw_relay.specs.declared.port.PortState.{PortState}
use Rattle.gw_script.specs.Event.{Event}
use Rattle.std.specs.List.{AllByRecursion}
use Rattle.gw_core.specs.Lasting.{lasts}
use Rattle.gw_core.specs.Resumed.{carried, saved}
use Rattle.gw_configuration.specs.declared.port.Port.{Port as ConfiguredPort}
use Rattle.gw_relay.specs.Initial.{port_state_with}
use Rattle.gw_state.specs.Carried.{tables_from}
use Rattle.gw_state.specs.Saved.{Saved}
use Rattle.gw_state.specs.declared.port.SavedPort.{SavedPort}
use Rattle.gw_tables.specs.declared.bdt_fdt.tables.PortTables.{PortTables}
use Rattle.gw_state_laws.specs.continuity.StateOf.{AllInRange, HasItsSlots, HaveTheirSlots, IsStateOf}

-- ---- states

-- After every history the state is one of the configuration.
abbrev pub StatesAreKept : Configuration → Type 0
StatesAreKept c = (k : Counts) (h : List Event) → IsStateOf c (state_after c k h)

-- Whatever was saved, under whatever configuration, what is taken over of it is a state of the configuration.
abbrev pub StatesAreCarried : Configuration → Type 0
StatesAreCarried c = (s : Saved) → IsStateOf c (carried c s)

-- From a state of the configuration every list of events leads to another one.
abbrev pub StatesGoOn : Configuration → Type 0
StatesGoOn c = (w : State) (l : List Event) → IsStateOf c w → IsStateOf c (state_from w l)

-- After every history the value of each slot and each default is in the range of its object.
abbrev pub ValuesStayInRange : Configuration → Type 0
ValuesStayInRange c = (k : Counts) (h : List Event) → AllInRange c.objects (state_after c k h).device.states

-- ---- slots

-- After every history each object has its sixteen slots, of which the sixth is empty.
abbrev pub SlotsAreKept : Configuration → Type 0
SlotsAreKept c = (k : Counts) (h : List Event) → HaveTheirSlots (state_after c k h).device.states

-- If each has them, it has them after each list of events.
abbrev pub SlotsGoOn : Type 0
SlotsGoOn = (w : State) (l : List Event) → HaveTheirSlots w.device.states → HaveTheirSlots (state_from w l).device.states

-- If each has them, each that is saved has them.
abbrev pub SlotsAreSaved : Configuration → Type 0
SlotsAreSaved c = (w : State) → HaveTheirSlots w.device.states → AllByRecursion (λ object. HasItsSlots object.slots) (saved c w).objects

-- If each that was saved has them, under whatever configuration, each has them that takes them over.
abbrev pub SlotsAreCarried : Configuration → Type 0
SlotsAreCarried c = (s : Saved) → AllByRecursion (λ object. HasItsSlots object.slots) s.objects → HaveTheirSlots (carried c s).device.states

-- ---- a port beside another broadcast manager

-- ports as they were saved, each of a configured one: where another broadcast manager is beside it, nothing is in its tables
abbrev pub HaveNoTables : List ConfiguredPort → List SavedPort → Type 0
HaveNoTables [] [] = ⊤
HaveNoTables (p ∷ ports) (s ∷ saved) =
    (is_some p.bbmd ≡ true → (s.entries ≡ []) × (s.devices ≡ [])) × HaveNoTables ports saved
HaveNoTables _ _ = ⊥

-- So what is saved holds no table of a port that has another broadcast manager beside it.
abbrev pub NoTablesAreSaved : Configuration → Type 0
NoTablesAreSaved c = (w : State) → IsStateOf c w → HaveNoTables c.ports (saved c w).ports

-- The tables that a port takes over are those that its gateway has: where another broadcast manager is beside the port they are
-- empty before the gateway empties them.
pub record AreTablesKept (number : ℕ) (p : ConfiguredPort) (t : PortTables) : Type 0 where
  pub bdt : (port_state_with number p t).bdt ≡ t.bdt
  pub fdt : (port_state_with number p t).fdt ≡ t.fdt

abbrev pub TablesAgree : Type 0
TablesAgree = (ticks number : ℕ) (p : ConfiguredPort) (s : Option SavedPort) → AreTablesKept number p (tables_from ticks p s)

-- ---- nothing is lost

-- What is taken over of what was saved is the state in which it was saved.
abbrev pub NothingIsLost : Configuration → Type 0
NothingIsLost c = (w : State) → IsStateOf c w → carried c (saved c w) ≡ w

-- So after every history it is in the state after that history.
abbrev pub HistoriesGoOn : Configuration → Type 0
HistoriesGoOn c = (k : Counts) (h : List Event) → IsStateAfter (carried c (saved c (state_after c k h))) c k h

-- And each list of events does what it would have done.
abbrev pub RunsGoOn : Configuration → Type 0
RunsGoOn c = (w : State) (l : List Event) → IsStateOf c w → run_from (carried c (saved c w)) l ≡ run_from w l

-- ---- what need not be kept at once

-- the tables of peers, in order of ports
abbrev pub entries_of : List PortState → List (List BdtEntry)
entries_of ports = map (λ state. state.bdt) ports

-- An event that doesn't last changes no table of peers, no slot and no default.
abbrev pub OnlyLastingChanges : Type 0
OnlyLastingChanges = (w : State) (e : Event) → lasts w e ≡ false →
    (entries_of (next w e).relay.ports ≡ entries_of w.relay.ports) × ((next w e).device ≡ w.device)
