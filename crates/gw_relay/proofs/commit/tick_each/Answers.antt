use Rattle.gw_relay.proofs.Places.{later_step}
use Rattle.gw_relay.proofs.commit.tick_each.Goals as goal

pub loop-state-preserved : goal.loop-state-preserved
loop-state-preserved c =
    later_step c.args.ports.now c.loop-state.ports c.loop-state.state-index c.state-item.result c.tick.new.self c.loop-state-test.true
    c.loop-state.invariant c.tick.ensures.rows
