use Rattle.std.proofs.Common.{◌≡◌, ◌++◌, drop}
use Rattle.gw_state_words.specs.takeover.Findings.{lost_objects}
use Rattle.gw_state_words.proofs.takeover.lost.add_lost_objects.Given as goal

abbrev pub invariant-loop-place : goal.invariant-loop-place
invariant-loop-place l =
    l.found.items ++ lost_objects l.objects l.saved l.place (drop l.place l.saved)
    ≡ l.fn.found.items ++ lost_objects l.objects l.saved 0 l.saved
