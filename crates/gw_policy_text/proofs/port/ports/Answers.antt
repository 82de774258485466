use Rattle.std.proofs.Common.{arith, length-append, [], ◌∷◌}
use Rattle.gw_configuration.specs.Configuration.{is_managed}
use Rattle.gw_policy_text.specs.Parts.{is_plain_in}
use Rattle.gw_policy_text.proofs.EachAt.{ends_at, goes_on_at}
use Rattle.gw_policy_text.proofs.Limits.{all_more}
use Rattle.gw_policy_text.proofs.port.ports.Goals as goal

pub loop-place-preserved : goal.loop-place-preserved
loop-place-preserved c =
    record {
      read = rw c.in_ok-push.ensures.ok (goes_on_at _ _ _ _ _ _ c.loop-place-test.true c.index-values-place.is c.in_ok-port.ensures.port c.loop-place.invariant.read);
      count = rw c.in_ok-push.ensures.ok (omega (arith, length-append c.loop-place.all (c.in_ok-port.field-0 ∷ []), c.loop-place.invariant.count));
      managed = rw c.in_ok-push.ensures.ok (all_more is_managed c.loop-place.all c.in_ok-port.field-0 c.loop-place.invariant.managed c.in_ok-port.ensures.managed);
      plain = rw c.in_ok-push.ensures.ok (all_more (is_plain_in c.args.format) c.loop-place.all c.in_ok-port.field-0 c.loop-place.invariant.plain c.in_ok-port.ensures.plain);
    }

pub returns : goal.returns
returns c = record { count = omega arith; ports = ends_at _ _ _ _ c.loop-place-test.false c.loop-place.invariant.read; managed = c.loop-place.invariant.managed; plain = c.loop-place.invariant.plain }
