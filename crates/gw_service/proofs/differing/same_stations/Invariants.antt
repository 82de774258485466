use Rattle.std.proofs.Common.{◌≡◌, drop}
use Rattle.std.specs.Cmp.Lexicographic.{pointwise}
use Rattle.gw_service.specs.Reload.{same_subnet}
use Rattle.gw_service.proofs.differing.same_stations.Given as goal

abbrev pub invariant-loop-place : goal.invariant-loop-place
invariant-loop-place l = pointwise same_subnet (drop l.place l.a) (drop l.place l.b) ≡ pointwise same_subnet l.a l.b
