use Rattle.gw_policy_review.specs.warnings.Oversights.{unheard_lines}
use Rattle.gw_script.proofs.Order.{in_order_none, in_order_step}
use Rattle.gw_policy_review.proofs.warnings.station_oversights.put_peers.Goals as goal

pub loop-place-init : goal.loop-place-init
loop-place-init c = in_order_none (unheard_lines c.args.numbered.now.config.now.rules c.args.numbered.now.number c.args.numbered.now.port.now) c.args.out.now.items

pub loop-place-preserved : goal.loop-place-preserved
loop-place-preserved c =
    in_order_step (unheard_lines c.args.numbered.now.config.now.rules c.args.numbered.now.number c.args.numbered.now.port.now) c.args.out.now.items c.loop-place.out.items c.put_peer.new.out.items c.args.peers.now c.loop-place.place _
    c.loop-place-test.true c.loop-place.invariant c.in_ok-put_peer.ensures
