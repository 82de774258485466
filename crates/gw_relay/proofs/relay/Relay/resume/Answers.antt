use Rattle.gw_relay.proofs.Ticks.{with_alike}
use Rattle.gw_relay.proofs.relay.Relay.resume.Goals as goal

pub invariant_of-result : goal.invariant_of-result
invariant_of-result c = rw c.in_ok-ports.ensures (with_alike c.args.ticks 1 c.ports.result.now c.args.tables.items c.requires.ticks)
