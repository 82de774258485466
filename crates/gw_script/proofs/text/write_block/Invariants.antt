use Rattle.std.proofs.Common.{◌*◌, ◌+◌}
use Rattle.gw_script.specs.internal.Digits.{AreWritten}
use Rattle.gw_script.proofs.text.write_block.Given as goal

abbrev pub invariant-loop-i : goal.invariant-loop-i
invariant-loop-i g l = AreWritten l.octets l.digits (2 * l.start + l.i)
