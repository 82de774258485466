use Rattle.std.proofs.Common.{◌∷◌, [], arith, length-append, map}
use Rattle.toml.specs.View.{view}
use Rattle.gw_configuration.specs.Configuration.{is_assertable}
use Rattle.gw_policy_text.specs.Policy.{assertion_in}
use Rattle.gw_policy_text.proofs.EachAt.{goes_on_at}
use Rattle.gw_policy_text.proofs.Limits.{all_more}
use Rattle.gw_policy_text.proofs.assertions.assertions.Goals as goal

pub loop-place-preserved : goal.loop-place-preserved
loop-place-preserved c = record {
  read = rw c.in_ok-push.ensures.ok (goes_on_at (assertion_in (map view c.args.sets.now)) _ _ _ _ _ c.loop-place-test.true c.index-values-place.is c.in_ok-assertion.ensures.assertion c.loop-place.invariant.read);
  count = rw c.in_ok-push.ensures.ok (omega (arith, length-append c.loop-place.all (c.in_ok-assertion.field-0 ∷ []), c.loop-place.invariant.count));
  each = rw c.in_ok-push.ensures.ok (all_more is_assertable c.loop-place.all c.in_ok-assertion.field-0 c.loop-place.invariant.each c.in_ok-assertion.ensures.assertable);
}
