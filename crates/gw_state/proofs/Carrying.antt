-- There are no more saved objects than objects, and the tables that are carried over have seen the ticks.
use Rattle.std.proofs.Common.{◌≡◌, sym, subst, refl, ℕ, ◌≤◌, Bool, true, false, List, [], ◌∷◌, length, arith, Option, Some, None}
use Rattle.std.specs.Prelude.{find, is_some, if◌then◌else◌}
use Rattle.std.specs.List.{AllByRecursion}
use Rattle.gw_tables.specs.declared.bdt_fdt.tables.PortTables.{PortTables}
use Rattle.gw_configuration.specs.declared.port.Port.{Port}
use Rattle.gw_objects.specs.Objects.{Slots}
use Rattle.gw_state.specs.declared.port.SavedPort.{SavedPort}
use Rattle.gw_state.specs.Saved.{OriginObject, saved_objects}
use Rattle.gw_state.specs.Carried.{is_port, manager_tables, no_tables, tables_carried, tables_from}

-- at most one object is saved of each
pub few_saved : (objects : List OriginObject) (states : List Slots) → length (saved_objects objects states) ≤ length objects
few_saved [] states = omega arith
few_saved (object ∷ objects) [] = omega arith
few_saved (object ∷ objects) (slots ∷ states) = let few = few_saved objects states in omega (arith, few)

-- the tables of a port have seen the ticks, whether it was saved or not
manager_seen : (ticks : ℕ) (p : Port) (s : Option SavedPort) → (manager_tables ticks p s).fdt.ticks ≡ ticks
manager_seen ticks p None = refl
manager_seen ticks p (Some s) = refl

pub seen : (ticks : ℕ) (p : Port) (s : Option SavedPort) → (tables_from ticks p s).fdt.ticks ≡ ticks
seen ticks p s = by (is_some p.bbmd)
  where
    by : (beside : Bool) → (if beside then no_tables ticks else manager_tables ticks p s).fdt.ticks ≡ ticks
    by true = refl
    by false = manager_seen ticks p s

all_seen : (ticks : ℕ) (ports : List Port) (saved : List SavedPort)
    → AllByRecursion (λ (t : PortTables). t.fdt.ticks ≡ ticks) (tables_carried ticks ports saved)
all_seen ticks [] saved = tt
all_seen ticks (p ∷ ports) saved = (seen ticks p (find (is_port p) saved), all_seen ticks ports saved)

-- tables that are these have seen these ticks
pub have_seen : (since ticks : ℕ) (ports : List Port) (saved : List SavedPort) (tables : List PortTables)
    → tables ≡ tables_carried ticks ports saved → ticks ≡ since → AllByRecursion (λ (t : PortTables). t.fdt.ticks ≡ since) tables
have_seen since ticks ports saved tables is e =
    subst (λ (n : ℕ). AllByRecursion (λ (t : PortTables). t.fdt.ticks ≡ n) tables) e
    (subst (AllByRecursion (λ (t : PortTables). t.fdt.ticks ≡ ticks)) (sym is) (all_seen ticks ports saved))
