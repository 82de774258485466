use Rattle.std.proofs.Common.{subst, sym}
use Rattle.gw_ask_sets.specs.regions.Merging.{IsWide}
use Rattle.gw_ask_sets.specs.regions.Presence.{NoneIsMeant}
use Rattle.gw_ask_sets.specs.regions.Regions.{Region}
use Rattle.gw_policy_review.specs.comparison.Operations.{OperationIsMeant}
use Rattle.gw_policy_review.proofs.comparison_lemmas.OperationLaw.{narrow_meant, narrow_none, narrow_wide}
use Rattle.gw_policy_review.proofs.comparison.operations.narrow.Goals as goal

pub returns-clause-asks : goal.returns-clause-asks
returns-clause-asks c =
    subst (λ (r : Region). IsWide c.args.shapes.now c.args.region.now r) (sym c.set.ensures)
    (narrow_wide c.args.shapes.now c.args.region.now c.in_ok-operations.operations c.in_ok-operations.ensures)

pub returns-clause-operations : goal.returns-clause-operations
returns-clause-operations c =
    subst (λ (r : Region). OperationIsMeant c.args.shapes.now r) (sym c.set.ensures)
    (narrow_meant c.args.shapes.now c.args.region.now c.in_ok-operations.operations c.in_ok-operations.ensures)

pub returns-clause-or_none : goal.returns-clause-or_none
returns-clause-or_none c = λ was.
    subst (λ (r : Region). NoneIsMeant c.args.shapes.now r) (sym c.set.ensures)
    (narrow_none c.args.shapes.now c.args.region.now c.in_ok-operations.operations c.in_ok-operations.ensures was)
