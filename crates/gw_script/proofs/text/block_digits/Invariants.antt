use Rattle.std.proofs.Common.{◌≡◌, ◌*◌, length}
use Rattle.gw_script.specs.internal.Digits.{AreDigits}
use Rattle.gw_script.proofs.text.block_digits.Given as goal

abbrev pub invariant-loop-i : goal.invariant-loop-i
invariant-loop-i g l = record {
  written : AreDigits l.octets (2 * l.start) l.digits (2 * l.i);
  size : length l.digits ≡ g.row.DIGITS;
}
