use Rattle.std.proofs.Common.{◌*◌, length, min}
use Rattle.gw_script.specs.internal.Digits.{AreWritten}
use Rattle.gw_script.proofs.text.write_blocks.Given as goal

abbrev pub invariant-loop-block : goal.invariant-loop-block
invariant-loop-block l = AreWritten l.octets l.digits (2 * min (8 * l.block) (length l.octets))
