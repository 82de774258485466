use Rattle.std.proofs.Common.{arith, length, rules, ℕ, List, ◌≡◌, ◌∙◌, ap, get_or, subst, ◌++◌, ◌+◌, ◌<◌, sym}
use Rattle.gw_rules.specs.declared.rule.Rule.{Rule}
use Rattle.gw_script.proofs.Order.{in_order_end, in_order_none, in_order_step}
use Rattle.gw_notices.specs.metrics.Text.{Count, full_line, labelled, rule_line}
use Rattle.gw_notices.specs.declared.metrics.family.Family.TheVariants as family
use Rattle.gw_notices.specs.declared.metrics.family.SampleLabel.TheVariants as label
use Rattle.gw_notices.proofs.metrics.text.put_rules.Goals as goal

pub loop-place-init : goal.loop-place-init
loop-place-init c = in_order_none (rule_line c.args.counts.now) c.args.out.now.items

pub loop-place-preserved : goal.loop-place-preserved
loop-place-preserved c =
    let rule = c.index-rules-place.result in
    let text = rule_line c.args.counts.now in
    let now = c.loop-place.out.items in
    let here : get_or c.args.rules.now c.loop-place.place rule ≡ rule = search rules in
    let inside : c.loop-place.place + 1 < length c.args.counts.now = omega (arith, c.loop-place-test.true, c.requires) in
    let then : c.put_counted.new.out.items ≡ now ++ text (c.loop-place.place + 1) rule =
    c.in_ok-put_counted.ensures
    ∙ ap (λ (name : List ℕ). now ++ full_line (Count family.Decisions (labelled label.Rule name c.count-count.result))) c.as_str-name.ensures.text
    ∙ ap (λ (r : Rule). now ++ full_line (Count family.Decisions (labelled label.Rule r.name c.count-count.result))) here
    ∙ ap (λ (n : ℕ). now ++ full_line (Count family.Decisions (labelled label.Rule rule.name n))) (c.count-count.ensures inside) in
    in_order_step text c.args.out.now.items c.loop-place.out.items c.put_counted.new.out.items c.args.rules.now c.loop-place.place rule
    c.loop-place-test.true c.loop-place.invariant
    (subst (λ (r : Rule). c.put_counted.new.out.items ≡ c.loop-place.out.items ++ text (c.loop-place.place + 1) r) (sym here) then)

pub returns : goal.returns
returns c =
    let ends : c.loop-place.place ≡ length c.args.rules.now = omega (arith, c.loop-place.auto.place-end, c.loop-place-test.false) in
    in_order_end (rule_line c.args.counts.now) c.args.out.now.items c.loop-place.out.items c.args.rules.now
    c.loop-place.place ends c.loop-place.invariant
