use Rattle.std.proofs.Common.{◌≡◌}
use Rattle.std.specs.List.{list_any}
use Rattle.gw_tables.specs.bdt_fdt.internal.Iterators.{peers_left}
use Rattle.gw_tables.specs.bdt_fdt.Peers.{is_of, peers}
use Rattle.gw_relay.proofs.port.PortState.is_peer.Given as goal

-- the entries that are left have it exactly where all have it
abbrev pub invariant-loop-entry : goal.invariant-loop-entry
invariant-loop-entry l =
    list_any (is_of l.address) (peers_left l.entry-iterator) ≡ list_any (is_of l.address) (peers l.self.port.address l.self.bdt)
