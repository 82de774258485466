use Rattle.std.proofs.Common.{subst, true, ℕ}
use Rattle.gw_policy_review.specs.permissions.Passing.{IsDecision}
use Rattle.gw_policy_review.proofs.permissions_lemmas.Passage.{one_passage}
use Rattle.gw_policy_review.proofs.permissions.passing.search_allowed.Goals as goal

pub returns : goal.returns
returns c =
    let shapes = c.args.shapes.now in
    let rules = c.args.policy.now in
    let found = c.in_ok-found.found in
    one_passage shapes rules c.args.left found.steps found.outcome
    (subst (λ (n : ℕ). IsDecision true shapes rules n found.steps found.outcome) c.steps_given.ensures c.in_ok-found.ensures)
