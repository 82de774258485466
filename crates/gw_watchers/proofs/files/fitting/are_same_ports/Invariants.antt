use Rattle.std.proofs.Common.{◌≡◌, drop}
use Rattle.std.specs.Cmp.Lexicographic.{pointwise}
use Rattle.gw_watchers.specs.files.Trial.{is_same_port}
use Rattle.gw_watchers.proofs.files.fitting.are_same_ports.Given as goal

abbrev pub invariant-loop-place : goal.invariant-loop-place
invariant-loop-place l = pointwise is_same_port (drop l.place l.some) (drop l.place l.others) ≡ pointwise is_same_port l.some l.others
