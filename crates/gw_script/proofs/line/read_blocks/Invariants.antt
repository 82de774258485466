use Rattle.std.specs.Prelude.{◌*◌, length, min}
use Rattle.gw_script.specs.internal.Pairs.{IsReadTo}
use Rattle.gw_script.proofs.line.read_blocks.Given as goal

abbrev pub invariant-loop-block : goal.invariant-loop-block
invariant-loop-block l = IsReadTo l.text l.octets (min (length l.octets) (8 * l.block)) l.largest
