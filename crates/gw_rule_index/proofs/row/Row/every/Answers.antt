use Rattle.std.proofs.Common.{ap, ◌-◌, ◌*◌, length, nat_lt, arith, length-set, ◌∙◌}
use Rattle.gw_rule_index.specs.internal.Row.{bit}
use Rattle.gw_rule_index.proofs.Rows.{word_placed, marks_every}
use Rattle.gw_rule_index.proofs.row.Row.every.Goals as goal

pub loop-place-preserved : goal.loop-place-preserved
loop-place-preserved c = record {
  len = grind (arith, length-set);
  done =
      word_placed (λ k b. bit (nat_lt b (length c.args.rules.now - 64 * k))) c.loop-place.words c.loop-place.place c.low_bits.result
      (omega (arith, c.loop-place.invariant.len))
      c.loop-place.invariant.done
      (λ b inside. c.low_bits.ensures b inside ∙ ap (λ n. bit (nat_lt b n)) c.saturating_sub.ensures);
}

pub returns : goal.returns
returns c =
    marks_every c.loop-place.words c.args.rules.now (λ k b word inside. c.loop-place.invariant.done k b (omega arith) inside)
