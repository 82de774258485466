use Rattle.gw_turns.specs.Stretch.{CanCount}
use Rattle.gw_gateway_vectors.proofs.watching.serve_under.Given as goal

abbrev pub invariant-loop : goal.invariant-loop
invariant-loop g l = record {
  can : CanCount l.state.served l.state.tally l.edges.wire.failures l.state.left;
}
