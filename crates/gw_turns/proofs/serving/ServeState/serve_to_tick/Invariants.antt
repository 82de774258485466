use Rattle.std.proofs.Common.{◌≡◌, ◌+◌, ◌-◌, ◌*◌, ◌^◌, ◌≤◌}
use Rattle.gw_turns.specs.Tally.{IsBelow}
use Rattle.gw_turns.specs.Serve.{AreRefused, scene}
use Rattle.gw_turns.specs.Stretch.{EndsAtTurns, moment, wire_counts}
use Rattle.gw_turns.proofs.serving.ServeState.serve_to_tick.Given as goal

abbrev pub invariant-loop : goal.invariant-loop
invariant-loop g l =
    let wire = g.W.Wire in
    let log = g.L.OctetSink in
    let was = l.fn.self.served in
    let is = l.self.served in
    record {
      end : EndsAtTurns g.G.Guard.Passes l.counter
          (moment (scene l.fn.gateway (log.held l.fn.log) (wire.calls l.fn.wire)) l.fn.guard was l.fn.self.tally)
          (moment (scene l.gateway (log.held l.log) (wire.calls l.wire)) l.guard is l.self.tally);
      turns : is.turns ≡ was.turns + l.counter;
      left : l.self.left + l.counter ≡ l.fn.self.left;
      each : is.taken + is.memory_drops + is.recv_failures ≤ is.turns;
      calls : wire_counts is ≤ is.turns * (2 ^ 64 - 1);
      failures : wire.failure_count l.wire + was.recv_failures + was.send_failures
          ≡ wire.failure_count l.fn.wire + is.recv_failures + is.send_failures;
      below : IsBelow is.taken l.self.tally;
      refused : AreRefused was l.fn.self.refusals is l.self.refusals;
      ports : wire.port_count l.wire ≡ wire.port_count l.fn.wire;
      lasting_log : log.NeverFails l.fn.log → log.NeverFails l.log;
    }
