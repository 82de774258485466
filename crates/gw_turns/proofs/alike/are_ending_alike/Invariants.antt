use Rattle.std.proofs.Common.{◌≡◌, drop}
use Rattle.std.specs.Cmp.Lexicographic.{pointwise}
use Rattle.gw_turns.specs.Keeping.{ends_alike}
use Rattle.gw_turns.proofs.alike.are_ending_alike.Given as goal

abbrev pub invariant-loop-place : goal.invariant-loop-place
invariant-loop-place l = pointwise (ends_alike l.since l.other) (drop l.place l.a) (drop l.place l.b) ≡ pointwise (ends_alike l.since l.other) l.a l.b
