use Rattle.std.specs.Prelude.{◌+◌}
use Rattle.gw_script.specs.internal.Pairs.{IsReadTo}
use Rattle.gw_script.proofs.line.read_block.Given as goal

abbrev pub invariant-loop-k : goal.invariant-loop-k
invariant-loop-k g l = IsReadTo l.text l.octets (l.start + l.k) l.largest
