use Rattle.std.proofs.Common.{◌≡◌, ◌+◌, ◌++◌, drop}
use Rattle.gw_objects.specs.Objects.{details_of}
use Rattle.gw_state_words.specs.takeover.Findings.{slot_findings}
use Rattle.gw_state_words.proofs.takeover.objects.add_slots.Given as goal

abbrev pub invariant-loop-place : goal.invariant-loop-place
invariant-loop-place l =
    l.found.items ++ slot_findings l.name (details_of l.object) (1 + l.place) (drop l.place l.slots)
    ≡ l.fn.found.items ++ slot_findings l.name (details_of l.object) 1 l.slots
