use Rattle.std.proofs.Common.{◌≡◌, drop}
use Rattle.std.specs.Cmp.Lexicographic.{pointwise}
use Rattle.gw_turns.specs.Keeping.{are_ending_alike}
use Rattle.gw_turns.proofs.alike.have_same_ends.Given as goal

abbrev pub invariant-loop-place : goal.invariant-loop-place
invariant-loop-place l =
    pointwise (are_ending_alike l.since l.other) (drop l.place l.ports) (drop l.place l.others)
    ≡ pointwise (are_ending_alike l.since l.other) l.ports l.others
