use Rattle.std.proofs.Common.{ℕ, ◌+◌, ◌*◌, get_or, set, ap, ◌∙◌, arith}
use Rattle.std.proofs.lemmas.List.{length-set}
use Rattle.std.proofs.lemmas.Nat.{and_mask}
use Rattle.hex.specs.Hex.{upper_digits}
use Rattle.gw_script.proofs.DigitLemmas.{octet_more}
use Rattle.gw_script.proofs.text.block_digits.Goals as goal

pub loop-i-preserved : goal.loop-i-preserved
loop-i-preserved g c =
    let octets = c.args.octets.now in
    let octet : ℕ = get_or octets (c.args.start + c.loop-i.i) 0 in
    let digits = c.loop-i.digits in
    let place : ℕ = 2 * c.loop-i.i in
    record {
      written = octet_more octets c.args.start c.loop-i.i digits _ _ (omega arith) (omega (arith, c.loop-i.invariant.size)) c.upper_digit.ensures
          (c.upper_digit-in-loop-i.ensures ∙ ap (λ (k : ℕ). get_or upper_digits k 0) (and_mask octet 4)) c.loop-i.invariant.written;
      size = length-set (set digits place c.upper_digit.result) (place + 1) c.upper_digit-in-loop-i.result ∙ length-set digits place c.upper_digit.result ∙ c.loop-i.invariant.size;
    }
