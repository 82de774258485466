use Rattle.std.proofs.Common.{◌≡◌, drop}
use Rattle.std.specs.Cmp.Lexicographic.{pointwise}
use Rattle.gw_service.specs.Reload.{same_port}
use Rattle.gw_service.proofs.reload.have_same_ports.Given as goal

abbrev pub invariant-loop-place : goal.invariant-loop-place
invariant-loop-place l = pointwise same_port (drop l.place l.states) (drop l.place l.ports) ≡ pointwise same_port l.states l.ports
