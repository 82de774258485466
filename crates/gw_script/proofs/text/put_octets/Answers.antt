use Rattle.std.proofs.Common.{arith}
use Rattle.std.proofs.lemmas.Grind.{common_steps}
use Rattle.hex.specs.Hex.{upper_digits}
use Rattle.hex.proofs.HexLemmas.{length-encode_with}
use Rattle.gw_script.proofs.text.put_octets.Goals as goal

pub returns-in_err-reserve : goal.returns-in_err-reserve
returns-in_err-reserve c = record {
  ok = grind (arith, common_steps);
  front = grind (arith, common_steps);
  room = λ room. absurd (omega (arith, room, length-encode_with upper_digits c.args.octets.now, c.in_err-reserve.ensures.full));
  capacity = grind (arith, common_steps);
}
