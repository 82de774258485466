use Rattle.std.proofs.Common.{◌++◌}
use Rattle.std.specs.Prelude.{codes}
use Rattle.gw_rules.specs.Operation.{operation_name}
use Rattle.gw_ask_sets.proofs.shapes_lemmas.Listing.{flat_end, flat_step}
use Rattle.gw_policy_review.proofs.comparison.words.put_more_names.Goals as goal

pub loop-operation-preserved : goal.loop-operation-preserved
loop-operation-preserved c =
    flat_step (λ other. codes " or " ++ operation_name other) c.args.operations.now c.loop-operation.operation-index _ c.args.out.now.items c.loop-operation.out.items _ c.loop-operation-test.true
    c.loop-operation.invariant c.in_ok-put_name.ensures

pub returns : goal.returns
returns c =
    flat_end (λ other. codes " or " ++ operation_name other) c.args.operations.now c.loop-operation.operation-index c.args.out.now.items _ c.loop-operation-test.false c.loop-operation.invariant
