use Rattle.std.proofs.Common.{take}
use Rattle.std.specs.Io.KnownBytes.{Appends}
use Rattle.gw_script.specs.Order.{in_order}
use Rattle.gw_decisions.specs.tally.Tally.{line_in}
use Rattle.gw_decisions.proofs.tally.text.write_rules.Given as goal

-- The lines of the rules so far were written, and what never fails goes on to never fail.
abbrev pub invariant-loop-place : goal.invariant-loop-place
invariant-loop-place g l =
    Appends (g.S.OctetSink.held l.fn.sink) (g.S.OctetSink.held l.sink) (in_order (line_in l.tally) 1 (take l.place l.rules))
    × (g.S.OctetSink.NeverFails l.fn.sink → g.S.OctetSink.NeverFails l.sink)
