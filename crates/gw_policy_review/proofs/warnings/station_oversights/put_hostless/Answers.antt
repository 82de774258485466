use Rattle.std.proofs.Common.{rules, ◌≡◌, ◌++◌, ◌+◌, get_or, subst, sym}
use Rattle.gw_configuration.specs.Subnet.{Subnet}
use Rattle.gw_policy_review.specs.warnings.Oversights.{hostless_lines}
use Rattle.gw_script.proofs.Order.{in_order_none, in_order_step}
use Rattle.gw_policy_review.proofs.warnings.station_oversights.put_hostless.Goals as goal

pub loop-place-init : goal.loop-place-init
loop-place-init c = in_order_none (hostless_lines c.args.number) c.args.out.now.items

pub loop-place-preserved : goal.loop-place-preserved
loop-place-preserved c =
    let text = hostless_lines c.args.number in
    let item = c.index-stations-place.result in
    let here : get_or c.args.stations.now c.loop-place.place item ≡ item = search rules in
    let then : c.put_hostless_item.new.out.items ≡ c.loop-place.out.items ++ text (c.loop-place.place + 1) item = search rules in
    in_order_step text c.args.out.now.items c.loop-place.out.items c.put_hostless_item.new.out.items c.args.stations.now c.loop-place.place item
    c.loop-place-test.true c.loop-place.invariant
    (subst (λ (x : Subnet). c.put_hostless_item.new.out.items ≡ c.loop-place.out.items ++ text (c.loop-place.place + 1) x) (sym here) then)
