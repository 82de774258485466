use Rattle.std.proofs.Common.{◌≡◌, drop}
use Rattle.std.specs.Cmp.Lexicographic.{pointwise}
use Rattle.gw_state.specs.Carried.{same_entry}
use Rattle.gw_service.proofs.differing.same_entries.Given as goal

abbrev pub invariant-loop-place : goal.invariant-loop-place
invariant-loop-place l = pointwise same_entry (drop l.place l.a) (drop l.place l.b) ≡ pointwise same_entry l.a l.b
