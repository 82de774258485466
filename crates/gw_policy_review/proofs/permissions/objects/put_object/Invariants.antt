use Rattle.gw_configuration.specs.declared.port.Port.{Port}
use Rattle.gw_policy_review.specs.permissions.Permissions.{AreReadings}
use Rattle.gw_policy_review.proofs.permissions_lemmas.InTurn.{Turned}
use Rattle.gw_policy_review.proofs.permissions.objects.put_object.Given as goal

abbrev pub invariant-loop-place : goal.invariant-loop-place
invariant-loop-place l =
    Turned (λ place (port : Port). AreReadings l.config l.at.number l.at.object.now port.network) l.config.ports l.place l.fn.left l.rest l.fn.out.items
    l.out.items
