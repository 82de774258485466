use Rattle.std.proofs.Common.{rules, arith, ◌≡◌, ◌∙◌, ◌⊎◌, inl, inr, ap, sym, ◌+◌, ◌++◌, ◌∷◌, [], length}
use Rattle.std.specs.Iterator.Adapters.{zip_first, zip_second}
use Rattle.std.specs.Slice.Iter.{iter_rest}
use Rattle.std.specs.Vec.Iter.{into_iter_items}
use Rattle.gw_relay.specs.Initial.{port_state_with, port_states_with}
use Rattle.gw_relay.proofs.Resuming.{all_made, length_one, one_more}
use Rattle.gw_relay.proofs.initial.port_states_with.Goals as goal

pub loop-port-preserved : goal.loop-port-preserved
loop-port-preserved c =
    let before = c.loop-port.port-iterator in
    let after = c.next.new.self in
    let xs = c.loop-port.states.items in
    let made : c.push.new.self.items ≡ xs ++ port_state_with (length xs + 1) c.in-Some.port.now c.in-Some.tables ∷ [] = search rules in
    let steps = c.in-Some.ensures.steps in
    record {
      states = one_more xs c.push.new.self.items (port_states_with 1 c.args.ports.now c.args.tables.items) c.in-Some.port.now c.in-Some.tables
          (iter_rest (zip_first before)) (iter_rest (zip_first after)) (into_iter_items (zip_second before)) (into_iter_items (zip_second after))
          made steps.0 steps.1.0 c.loop-port.invariant.states;
      few = omega (arith, ap length made, ap length steps.0, c.loop-port.invariant.few, length_one xs (port_state_with (length xs + 1) c.in-Some.port.now c.in-Some.tables));
      len = omega (arith, ap length steps.1.0, steps.1.1, c.loop-port.invariant.len);
    }

pub returns : goal.returns
returns c =
    let it = c.loop-port.port-iterator in
    let none : (length (iter_rest (zip_first it)) ≡ 0) ⊎ (length (into_iter_items (zip_second it)) ≡ 0) =
    elim c.in-None.ensures.steps [
      | inl first ↦ inl first.1.0
      | inr second ↦ inr (sym c.loop-port.invariant.len ∙ second.1.0)
    ] in
    all_made c.loop-port.states.items (port_states_with 1 c.args.ports.now c.args.tables.items)
    (iter_rest (zip_first it)) (into_iter_items (zip_second it)) none c.loop-port.invariant.states
