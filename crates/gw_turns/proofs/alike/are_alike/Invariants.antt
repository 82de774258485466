use Rattle.std.proofs.Common.{◌≡◌, drop}
use Rattle.std.specs.Cmp.Lexicographic.{pointwise}
use Rattle.gw_turns.proofs.alike.are_alike.Given as goal

abbrev pub invariant-loop-place : goal.invariant-loop-place
invariant-loop-place g l = pointwise g.T.Alike.alike (drop l.place l.a) (drop l.place l.b) ≡ pointwise g.T.Alike.alike l.a l.b
