use Rattle.std.specs.Int.{w64}
use Rattle.std.proofs.lemmas.Nat.Bits.{bit_at-trailing_zeros}
use Rattle.gw_rule_index.proofs.row.lowest.Goals as goal

pub returns : goal.returns
returns c =
    let is = bit_at-trailing_zeros w64 c.args.word c.requires c.ranges.word.fits in
    record { within = is.0; set = is.1; clear = is.2 }
