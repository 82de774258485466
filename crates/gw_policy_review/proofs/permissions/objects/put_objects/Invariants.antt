use Rattle.gw_policy_review.specs.permissions.Permissions.{AreObjectLines}
use Rattle.gw_policy_review.proofs.permissions_lemmas.InTurn.{Turned}
use Rattle.gw_policy_review.proofs.permissions.objects.put_objects.Given as goal

abbrev pub invariant-loop-place : goal.invariant-loop-place
invariant-loop-place l = Turned (AreObjectLines l.config) l.config.objects l.place l.fn.left l.rest l.fn.out.items l.out.items
