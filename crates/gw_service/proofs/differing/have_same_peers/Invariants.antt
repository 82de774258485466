use Rattle.std.proofs.Common.{◌≡◌, drop}
use Rattle.std.specs.Cmp.Lexicographic.{pointwise}
use Rattle.gw_service.specs.Reload.{same_peers}
use Rattle.gw_service.proofs.differing.have_same_peers.Given as goal

abbrev pub invariant-loop-place : goal.invariant-loop-place
invariant-loop-place l = pointwise same_peers (drop l.place l.saved) (drop l.place l.ports) ≡ pointwise same_peers l.saved l.ports
