use Rattle.gw_policy_review.proofs.comparison.comparison.narrowed.Goals as goal

pub returns-clause-summary : goal.returns-clause-summary
returns-clause-summary c = λ old new was. c.in_ok-found.ensures.summary old new c.args.wide.left.items was
