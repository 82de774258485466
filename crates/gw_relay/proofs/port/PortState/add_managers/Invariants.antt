use Rattle.std.proofs.Common.{◌≡◌, ◌++◌, map}
use Rattle.gw_tables.specs.bdt_fdt.internal.Iterators.{peers_left}
use Rattle.gw_relay.specs.Cast.{directed, managers}
use Rattle.gw_relay.proofs.port.PortState.add_managers.Given as goal

-- what is appended and what is left are all of them
abbrev pub invariant-loop-peer : goal.invariant-loop-peer
invariant-loop-peer l = l.out.items ++ map directed (peers_left l.peer-iterator) ≡ l.fn.out.items ++ managers l.self
