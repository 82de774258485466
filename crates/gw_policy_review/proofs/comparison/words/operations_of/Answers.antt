use Rattle.std.proofs.Common.{◌∷◌, []}
use Rattle.std.specs.Prelude.{if◌then◌else◌}
use Rattle.gw_rules.specs.declared.operation.TheConstants.Operation.{ALL}
use Rattle.gw_ask_sets.specs.regions.Values.{has_operation}
use Rattle.gw_ask_sets.proofs.shapes_lemmas.Listing.{flat_end, flat_step}
use Rattle.gw_policy_review.proofs.comparison.words.operations_of.Goals as goal

pub loop-operation-preserved : goal.loop-operation-preserved
loop-operation-preserved c =
    flat_step (λ operation. if has_operation c.args.values.now operation then operation ∷ [] else []) ALL c.loop-operation.operation-index _ [] c.loop-operation.operations.items _ c.loop-operation-test.true
    c.loop-operation.invariant c.in_ok-push_operation.ensures

pub returns : goal.returns
returns c =
    flat_end (λ operation. if has_operation c.args.values.now operation then operation ∷ [] else []) ALL c.loop-operation.operation-index [] _ c.loop-operation-test.false c.loop-operation.invariant
