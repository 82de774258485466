use Rattle.std.proofs.Common.{◌≡◌, take, true}
use Rattle.std.specs.Str.{all_ascii_digits}
use Rattle.std.specs.Str.Parse.{digits_value}
use Rattle.gw_addr.proofs.digits.number_in.Given as goal

abbrev pub invariant-loop-digit : goal.invariant-loop-digit
invariant-loop-digit l = record {
  digits : all_ascii_digits (take l.digit-index l.text) ≡ true;
  number : l.number ≡ digits_value 10 (take l.digit-index l.text);
}
