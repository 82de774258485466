use Rattle.std.proofs.Common.{◌≡◌, ◌++◌, ℕ, List, length}
use Rattle.std.specs.Io.KnownBytes.{Appends}
use Rattle.gw_script.proofs.sink.write_whole.Given as goal

abbrev pub invariant-loop-rest : goal.invariant-loop-rest
invariant-loop-rest g l = record {
  front : (front : List ℕ) × (l.fn.text ≡ front ++ l.rest) × Appends (g.S.OctetSink.held l.fn.sink) (g.S.OctetSink.held l.sink) front;
  lasts : g.S.OctetSink.NeverFails l.fn.sink → g.S.OctetSink.NeverFails l.sink;
}

abbrev pub decreases-loop-rest : goal.decreases-loop-rest
decreases-loop-rest g l = length l.rest
