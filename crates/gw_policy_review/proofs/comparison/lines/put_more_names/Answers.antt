use Rattle.std.proofs.Common.{◌++◌}
use Rattle.std.specs.Prelude.{codes}
use Rattle.gw_policy_review.specs.comparison.Lines.{rule_name}
use Rattle.gw_ask_sets.proofs.shapes_lemmas.Listing.{flat_end, flat_step}
use Rattle.gw_policy_review.proofs.comparison.lines.put_more_names.Goals as goal

pub loop-number-preserved : goal.loop-number-preserved
loop-number-preserved c =
    flat_step (λ other. codes " or " ++ rule_name c.args.names.now other) c.args.numbers.now c.loop-number.number-index _ c.args.out.now.items c.loop-number.out.items _ c.loop-number-test.true
    c.loop-number.invariant c.in_ok-put_other_name.ensures

pub returns : goal.returns
returns c =
    flat_end (λ other. codes " or " ++ rule_name c.args.names.now other) c.args.numbers.now c.loop-number.number-index c.args.out.now.items _ c.loop-number-test.false c.loop-number.invariant
