use Rattle.std.proofs.Common.{◌≡◌, ◌∷◌, map, take}
use Rattle.gw_policy_drafts.specs.beginning.Ports.{subnet_at}
use Rattle.gw_policy_drafts.proofs.beginning.ports.subnets_of.Given as goal

abbrev pub invariant-loop-peer : goal.invariant-loop-peer
invariant-loop-peer l = l.subnets ≡ subnet_at l.fn.part ∷ map subnet_at (take l.peer-index l.peers)
