use Rattle.std.specs.Io.KnownBytes.{Appends}
use Rattle.gw_turns.specs.Reports.{health_lines}
use Rattle.gw_turns.proofs.report.write_healths.Given as goal

-- The lines of the ports so far were written, and what never fails goes on to never fail.
abbrev pub invariant-loop-place : goal.invariant-loop-place
invariant-loop-place g l =
    let sink = g.S.OctetSink in record {
      written : Appends (sink.held l.fn.sink) (sink.held l.sink) (health_lines l.seconds l.served l.place);
      lasts : sink.NeverFails l.fn.sink → sink.NeverFails l.sink;
    }
