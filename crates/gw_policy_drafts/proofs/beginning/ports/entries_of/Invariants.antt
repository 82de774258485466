use Rattle.std.proofs.Common.{◌≡◌, map, take}
use Rattle.gw_policy_drafts.specs.beginning.Ports.{entry_of}
use Rattle.gw_policy_drafts.proofs.beginning.ports.entries_of.Given as goal

abbrev pub invariant-loop-peer : goal.invariant-loop-peer
invariant-loop-peer l = l.entries ≡ map entry_of (take l.peer-index l.peers)
