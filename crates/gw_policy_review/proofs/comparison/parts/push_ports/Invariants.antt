use Rattle.gw_policy_review.proofs.comparison_lemmas.PartsLaw.{Listed}
use Rattle.gw_policy_review.proofs.comparison.parts.push_ports.Given as goal

-- the parts of the ports so far
abbrev pub invariant-loop-place : goal.invariant-loop-place
invariant-loop-place l = Listed l.old l.new l.fn.out.items l.place l.out.items
