use Rattle.std.proofs.Common.{◌+◌, ap, ◌∙◌, sym, ℕ, subst}
use Rattle.gw_rule_index.specs.internal.Row.{admits_in, bit, is_marked}
use Rattle.gw_rule_index.proofs.Rows.{HasBits, bit_set, bit_left}
use Rattle.gw_rule_index.proofs.row.word_at.Goals as goal
use Rattle.gw_rule_index.proofs.row.word_at.Goals.{then-admits_at, else-admits_at}

pub loop-place-preserved : goal.loop-place-preserved
loop-place-preserved c =
    let f : ℕ → ℕ = λ b. bit (is_marked (admits_in c.args.field c.args.value) c.args.rules.now (c.args.from + b)) in
    let next : HasBits f c.if-admits_at.word (c.loop-place.place + 1) = elim c.if-admits_at.branch [
      | then-admits_at w ↦
          subst (λ word. HasBits f word (c.loop-place.place + 1)) (sym w.word-is)
          (bit_set f c.loop-place.word c.loop-place.place c.loop-place-test.true (ap bit (sym c.admits_at.ensures ∙ w.if-admits_at.true)) c.loop-place.invariant.done c.loop-place.invariant.left)
      | else-admits_at w ↦
          subst (λ word. HasBits f word (c.loop-place.place + 1)) (sym w.word-is)
          (bit_left f c.loop-place.word c.loop-place.place (ap bit (sym c.admits_at.ensures ∙ w.if-admits_at.false)) c.loop-place.invariant.done c.loop-place.invariant.left)
    ] in
    record { done = next.done; left = next.left }
