use Rattle.std.proofs.Common.{◌≡◌, ◌++◌, take}
use Rattle.std.specs.List.{flat_map}
use Rattle.gw_policy_drafts.specs.migration.Ports.{peer_table}
use Rattle.gw_policy_drafts.proofs.migration.ports.put_peers.Given as goal

abbrev pub invariant-loop-peer : goal.invariant-loop-peer
invariant-loop-peer l = l.out.items ≡ l.fn.out.items ++ flat_map peer_table (take l.peer-index l.fn.peers)
