use Rattle.std.proofs.Common.{◌≡◌, inl, inr, ◌∙◌, arith}
use Rattle.std.proofs.lemmas.Bool.{cases_lt}
use Rattle.std.proofs.lemmas.List.{get_or-set_other, get_or-set_same, length-set, length-replicate}
use Rattle.gw_script.proofs.line.block_values.Goals as goal

pub loop-k-init : goal.loop-k-init
loop-k-init g c = (length-replicate g.row.DIGITS 0, λ j lt. absurd (omega arith))

pub loop-k-preserved : goal.loop-k-preserved
loop-k-preserved g c =
    let values = c.loop-k.values in
    let value = c.digit_value.result in (
      length-set values c.loop-k.k value ∙ c.loop-k.invariant.0,
      λ j lt.
          elim (cases_lt j c.loop-k.k) [
            | inl less ↦ rw (get_or-set_other values c.loop-k.k j value 0 (λ same. absurd (omega arith))) (c.loop-k.invariant.1 j less)
            | inr over ↦
                let this : j ≡ c.loop-k.k = omega arith in
                rw (this, get_or-set_same values c.loop-k.k value 0 (omega (arith, c.loop-k.invariant.0))) c.digit_value.ensures
          ],
    )

pub returns : goal.returns
returns g c = λ k lt. c.loop-k.invariant.1 k (omega arith)
