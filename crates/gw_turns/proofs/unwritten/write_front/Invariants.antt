use Rattle.std.proofs.Common.{◌-◌, ◌≤◌, length, take}
use Rattle.std.specs.Io.KnownBytes.{Appends}
use Rattle.gw_turns.proofs.unwritten.write_front.Given as goal

abbrev pub invariant-loop-written : goal.invariant-loop-written
invariant-loop-written g l = record {
  most : l.written ≤ length l.fn.text;
  front : Appends (g.L.OctetSink.held l.fn.log) (g.L.OctetSink.held l.log) (take l.written l.fn.text);
  lasts : g.L.OctetSink.NeverFails l.fn.log → g.L.OctetSink.NeverFails l.log;
}

abbrev pub decreases-loop-written : goal.decreases-loop-written
decreases-loop-written g l = length l.fn.text - l.written
