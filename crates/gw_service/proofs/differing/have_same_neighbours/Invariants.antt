use Rattle.std.proofs.Common.{◌≡◌, drop}
use Rattle.std.specs.Cmp.Lexicographic.{pointwise}
use Rattle.gw_service.specs.Reload.{same_neighbours}
use Rattle.gw_service.proofs.differing.have_same_neighbours.Given as goal

abbrev pub invariant-loop-place : goal.invariant-loop-place
invariant-loop-place l = pointwise same_neighbours (drop l.place l.states) (drop l.place l.ports) ≡ pointwise same_neighbours l.states l.ports
