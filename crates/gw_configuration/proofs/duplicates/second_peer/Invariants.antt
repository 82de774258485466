use Rattle.std.proofs.Common.{◌≡◌, take}
use Rattle.gw_configuration.specs.Duplicates.{peer_addresses}
use Rattle.gw_configuration.proofs.duplicates.second_peer.Given as goal

abbrev pub invariant-loop-peer : goal.invariant-loop-peer
invariant-loop-peer l = l.all.items ≡ peer_addresses (take l.peer-index l.peers)
