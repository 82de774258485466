use Rattle.std.proofs.Common.{rules, ◌≡◌, Err, map, arith}
use Rattle.toml.specs.View.{view}
use Rattle.gw_policy_text.specs.keys.Items.{added_to, spans_in}
use Rattle.gw_policy_text.proofs.keys_lemmas.Each.{spans_end, spans_stop}
use Rattle.gw_policy_text.proofs.keys.items.add_spans.Goals as goal

pub returns-in_err-span-clause-ranges : goal.returns-in_err-span-clause-ranges
returns-in_err-span-clause-ranges c =
    let stopped : added_to c.args.all.now (spans_in c.args.of (map view c.args.items.now)) ≡ Err c.in_err-span.field-0.0 =
    spans_stop _ _ _ _ _ _ _ _ c.have_span_kind.ensures c.if-have_span_kind.false c.loop-item-test.true c.item-item.is c.in_err-span.ensures.range c.loop-item.invariant.put in
    search rules

pub returns-clause-ranges : goal.returns-clause-ranges
returns-clause-ranges c =
    spans_end _ _ _ c.loop-item.item-index _ _ c.have_span_kind.ensures c.if-have_span_kind.false (omega (arith, c.loop-item-test.false)) c.loop-item.invariant.put
