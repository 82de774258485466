use Rattle.std.proofs.Common.{◌≡◌, ◌++◌, map, take, drop}
use Rattle.gw_relay.specs.State.{port_later}
use Rattle.gw_relay.proofs.commit.tick_each.Given as goal

-- the first ports are one tick later, the others as before
abbrev pub invariant-loop-state : goal.invariant-loop-state
invariant-loop-state l = l.ports ≡ map port_later (take l.state-index l.fn.ports) ++ drop l.state-index l.fn.ports
