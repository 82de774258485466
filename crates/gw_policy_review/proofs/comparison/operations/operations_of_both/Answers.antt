use Rattle.std.proofs.Common.{refl}
use Rattle.std.proofs.lemmas.Result.{IfOk-weaker}
use Rattle.gw_policy_review.proofs.comparison_lemmas.OperationLaw.{asked_of_both, nothing_of_both}
use Rattle.gw_policy_review.proofs.comparison.operations.operations_of_both.Goals as goal

pub returns-in-Some : goal.returns-in-Some
returns-in-Some c =
    IfOk-weaker c.values_of_both.result _ _
    (λ operations is. asked_of_both c.args.region.now c.args.shape.now _ operations c.in-Some.ensures.some is)
    c.values_of_both.ensures

pub returns-in-None : goal.returns-in-None
returns-in-None c =
    nothing_of_both c.args.region.now c.args.shape.now c.nothing.result (c.in-None.ensures.none refl) c.nothing.ensures
