use Rattle.std.proofs.Common.{◌≡◌, ◌++◌, take}
use Rattle.std.specs.List.{flat_map}
use Rattle.gw_state_words.specs.takeover.Findings.{object_findings}
use Rattle.gw_state_words.proofs.takeover.objects.add_objects.Given as goal

abbrev pub invariant-loop-object : goal.invariant-loop-object
invariant-loop-object l = l.found.items ≡ l.fn.found.items ++ flat_map (object_findings l.saved) (take l.object-index l.objects)
