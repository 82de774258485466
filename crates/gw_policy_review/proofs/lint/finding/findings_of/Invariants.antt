use Rattle.gw_policy_review.proofs.lint_lemmas.Found.{AreFound}
use Rattle.gw_policy_review.proofs.lint.finding.findings_of.Given as goal

abbrev pub invariant-loop-place : goal.invariant-loop-place
invariant-loop-place l = AreFound l.shapes l.rules l.findings.items l.place l.steps l.left
