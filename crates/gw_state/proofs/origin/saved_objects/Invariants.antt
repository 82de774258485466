use Rattle.std.proofs.Common.{◌≡◌, ◌++◌, drop}
use Rattle.gw_state.specs.Saved.{saved_objects}
use Rattle.gw_state.proofs.origin.saved_objects.Given as goal

abbrev pub invariant-loop-place : goal.invariant-loop-place
invariant-loop-place l = l.saved.items ++ saved_objects (drop l.place l.objects) (drop l.place l.states) ≡ saved_objects l.objects l.states
