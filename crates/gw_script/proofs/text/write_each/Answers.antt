use Rattle.std.proofs.Common.{◌≡◌, ℕ, ◌+◌, get_or, ap, ◌∙◌, arith}
use Rattle.std.proofs.lemmas.Nat.{and_mask}
use Rattle.hex.specs.Hex.{upper_digits}
use Rattle.gw_script.proofs.DigitLemmas.{octet_more}
use Rattle.gw_script.proofs.text.write_each.Goals as goal

pub loop-i-preserved : goal.loop-i-preserved
loop-i-preserved c =
    let octets = c.args.octets.now in
    let i = c.loop-i.i in
    let octet : ℕ = get_or octets i 0 in
    let same : 0 + i ≡ i = omega arith in
    let here : get_or octets (0 + i) 0 ≡ octet = ap (λ (k : ℕ). get_or octets k 0) same in
    octet_more octets 0 i c.loop-i.digits _ _ (omega arith) (omega arith) (rw here c.digit_of.ensures)
    (rw here (c.digit_of-in-loop-i.ensures ∙ ap (λ (k : ℕ). get_or upper_digits k 0) (and_mask octet 4))) c.loop-i.invariant
