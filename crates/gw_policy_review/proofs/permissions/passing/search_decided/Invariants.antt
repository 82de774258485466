use Rattle.gw_policy_review.proofs.permissions_lemmas.Passage.{AreNone}
use Rattle.gw_policy_review.proofs.permissions.passing.search_decided.Given as goal

abbrev pub invariant-loop-place : goal.invariant-loop-place
invariant-loop-place l = AreNone l.says l.shapes l.quest.rules.now l.steps l.place l.used
