use Rattle.std.proofs.Common.{◌∙◌, ◌+◌, ap, length}
use Rattle.std.proofs.lemmas.List.{length_push}
use Rattle.gw_rule_index.proofs.Gathered.{row_more}
use Rattle.gw_rule_index.proofs.field_build.rows_of.Goals as goal

pub loop-number-preserved : goal.loop-number-preserved
loop-number-preserved c = record {
  len = ap length c.in_ok-push-2.ensures.items ∙ length_push c.loop-number.rows.items c.admitting-in-loop-number.result ∙ ap (λ n. n + 1) c.loop-number.invariant.len;
  rows = row_more c.args.rules.now c.args.field c.args.numbers.now c.loop-number.rows.items c.push-in-loop-number.new.self.items c.admitting-in-loop-number.result c.loop-number.number-index
      c.in_ok-push-2.ensures.items c.loop-number.invariant.len c.loop-number.invariant.rows c.admitting-in-loop-number.ensures;
}
