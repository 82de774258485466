use Rattle.std.proofs.Common.{◌∙◌, ◌++◌, [], ap}
use Rattle.std.specs.List.{flat_map}
use Rattle.gw_rules.specs.Rule.{ranges_of}
use Rattle.gw_rule_index.specs.internal.Bounds.{ends}
use Rattle.gw_rule_index.proofs.Gathered.{gathered}
use Rattle.gw_rule_index.proofs.field_build.ends_of.Goals as goal

pub loop-rule-preserved : goal.loop-rule-preserved
loop-rule-preserved c =
    gathered (λ rule. flat_map ends (ranges_of c.args.field rule)) [] c.loop-rule.numbers.items c.add_ends.new.numbers.items c.args.rules.now c.loop-rule.rule-index c.rule-item.result c.loop-rule-test.true
    c.loop-rule.invariant
    (c.in_ok-add_ends.ensures ∙ ap (λ ranges. c.loop-rule.numbers.items ++ flat_map ends ranges) (c.as_slice.ensures ∙ c.ranges-in-loop-rule.ensures ∙ ap (ranges_of c.args.field) c.rule-item.is))
