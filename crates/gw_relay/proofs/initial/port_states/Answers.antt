use Rattle.gw_relay.proofs.Peers.{once_at}
use Rattle.gw_relay.proofs.initial.port_states.Goals as goal

pub port_state-requires : goal.port_state-requires
port_state-requires c =
    once_at c.args.ports.now c.loop-place.place c.index-ports-place.result c.loop-place-test.true c.index-ports-place.is c.requires.once
