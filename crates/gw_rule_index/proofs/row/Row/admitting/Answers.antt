use Rattle.std.proofs.Common.{◌+◌, ◌*◌, arith, length-set}
use Rattle.gw_rule_index.specs.internal.Row.{admits_in, bit, is_marked}
use Rattle.gw_rule_index.proofs.Rows.{word_placed}
use Rattle.gw_rule_index.proofs.row.Row.admitting.Goals as goal

pub loop-place-preserved : goal.loop-place-preserved
loop-place-preserved c = record {
  len = grind (arith, length-set);
  done =
      word_placed (λ k b. bit (is_marked (admits_in c.args.field c.args.value) c.args.rules.now (64 * k + b))) c.loop-place.words c.loop-place.place c.word_at.result
      (omega (arith, c.loop-place.invariant.len))
      c.loop-place.invariant.done
      c.word_at.ensures;
}
