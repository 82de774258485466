use Rattle.std.proofs.Common.{arith, length-append, [], ◌∷◌}
use Rattle.gw_configuration.specs.Configuration.{is_named}
use Rattle.gw_policy_text.proofs.EachAt.{goes_on_at}
use Rattle.gw_policy_text.proofs.Limits.{all_more}
use Rattle.gw_policy_text.proofs.objects.objects.Goals as goal

pub loop-place-preserved : goal.loop-place-preserved
loop-place-preserved c =
    record {
      read = rw c.in_ok-push.ensures.ok (goes_on_at _ _ _ _ _ _ c.loop-place-test.true c.index-values-place.is c.in_ok-object.ensures.object c.loop-place.invariant.read);
      count = rw c.in_ok-push.ensures.ok (omega (arith, length-append c.loop-place.all (c.in_ok-object.field-0 ∷ []), c.loop-place.invariant.count));
      named = rw c.in_ok-push.ensures.ok (all_more (λ o. is_named o.name) c.loop-place.all c.in_ok-object.field-0 c.loop-place.invariant.named c.in_ok-object.ensures.named);
    }
