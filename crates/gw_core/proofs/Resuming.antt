-- What is saved keeps the limits, and a relay that goes on has a state for each port.
use Rattle.std.proofs.Common.{◌≡◌, ap, refl, ℕ, suc, ◌+◌, ◌≤◌, ◌^◌, ◌&&◌, true, List, [], ◌∷◌, length, arith}
use Rattle.std.proofs.lemmas.Bool.{and_from, le-leb}
use Rattle.gw_tables.specs.declared.bdt_fdt.tables.PortTables.{PortTables}
use Rattle.gw_configuration.specs.declared.port.Port.{Port}
use Rattle.gw_relay.specs.Initial.{port_states_with}
use Rattle.gw_relay.specs.declared.port.PortState.{PortState}
use Rattle.gw_tables.specs.routes.Table.{Routed}
use Rattle.gw_state.specs.declared.counts.SavedCounts.{SavedCounts}
use Rattle.gw_state.specs.declared.origin.OriginPort.{OriginPort}
use Rattle.gw_state.specs.declared.port.SavedPort.{SavedPort}
use Rattle.gw_state.specs.Saved.{SavedObject, are_countable, are_few}
use Rattle.gw_core.specs.Resumed.{saved_ports}

-- at most one port is saved of each
pub few_saved : (ports : List OriginPort) (states : List PortState) → length (saved_ports ports states) ≤ length ports
few_saved [] states = omega arith
few_saved (port ∷ ports) [] = omega arith
few_saved (port ∷ ports) (state ∷ states) = let few = few_saved ports states in omega (arith, few)

-- parts within the limits are accepted
pub accepted : (ports : List SavedPort) (routes : Routed) (objects : List SavedObject) (counts : SavedCounts)
    → length ports ≤ 8 → length routes ≤ 512 → length objects ≤ 256
    → counts.since ≤ counts.ticks → counts.ticks ≤ 2 ^ 63 → counts.denials ≤ 2 ^ 63
    → (are_few ports routes objects && are_countable counts) ≡ true
accepted ports routes objects counts some few most since ticks denials =
    and_from _ _
    (and_from _ _ (le-leb _ _ some) (and_from _ _ (le-leb _ _ few) (le-leb _ _ most)))
    (and_from _ _ (le-leb _ _ since) (and_from _ _ (le-leb _ _ ticks) (le-leb _ _ denials)))

-- as many tables as ports give as many states
pub length_with : (number : ℕ) (ports : List Port) (tables : List PortTables) → length tables ≡ length ports
    → length (port_states_with number ports tables) ≡ length ports
length_with number [] tables same = refl
length_with number (p ∷ ports) [] same = absurd (omega (arith, same))
length_with number (p ∷ ports) (t ∷ tables) same = ap suc (length_with (number + 1) ports tables (omega (arith, same)))
