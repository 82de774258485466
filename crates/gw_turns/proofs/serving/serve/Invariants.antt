use Rattle.std.proofs.Common.{◌≡◌, ◌+◌, ◌-◌, ◌*◌, ◌^◌, ◌≤◌}
use Rattle.gw_turns.specs.Tally.{IsBelow}
use Rattle.gw_turns.specs.Serve.{ServesAll, scene}
use Rattle.gw_turns.specs.Stretch.{wire_counts}
use Rattle.gw_turns.proofs.serving.serve.Given as goal

abbrev pub invariant-loop : goal.invariant-loop
invariant-loop g l =
    let wire = g.W.Wire in
    let log = g.L.OctetSink in
    let counts = l.state.served in
    record {
      left : l.state.left + l.counter ≡ l.turns;
      served : ServesAll l.counter (scene l.fn.gateway (log.held l.fn.log) (wire.calls l.fn.wire)) counts (scene l.gateway
          (log.held l.log) (wire.calls l.wire));
      failures : wire.failure_count l.wire ≡ wire.failure_count l.fn.wire + counts.recv_failures + counts.send_failures;
      below : IsBelow counts.taken l.state.tally;
      few : wire_counts counts ≤ l.counter * (2 ^ 64 - 1);
      ports : wire.port_count l.wire ≡ wire.port_count l.fn.wire;
      lasting_log : log.NeverFails l.fn.log → log.NeverFails l.log;
    }
