use Rattle.gw_policy_review.proofs.comparison_lemmas.SummaryLaw.{in_other_order, meant_in_other_order, operations_in_other_order}
use Rattle.gw_policy_review.proofs.comparison.comparison.summary_of.Goals as goal

pub returns-clause-summary : goal.returns-clause-summary
returns-clause-summary c = λ old new was.
    in_other_order c.args.asks.now old new c.in_ok-summary.summary.found.items c.sort_found.new.found.items
    c.in_ok-summary.summary.left.items c.in_ok-sort_found.ensures.permutation
    (c.in_ok-summary.ensures.summary old new (c.in_ok-wide.ensures.summary old new was))

pub returns-clause-or_none : goal.returns-clause-or_none
returns-clause-or_none c =
    meant_in_other_order c.args.asks.now c.in_ok-summary.summary.found.items c.sort_found.new.found.items
    c.in_ok-sort_found.ensures.permutation c.in_ok-summary.ensures.or_none

pub returns-clause-operations : goal.returns-clause-operations
returns-clause-operations c =
    operations_in_other_order c.args.asks.now c.in_ok-summary.summary.found.items c.sort_found.new.found.items
    c.in_ok-sort_found.ensures.permutation c.in_ok-summary.ensures.operations
