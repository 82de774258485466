use Rattle.std.proofs.Common.{◌≡◌, map, take}
use Rattle.gw_tables.specs.priority.Commandable.{no_command}
use Rattle.gw_objects.specs.Objects.{default_of}
use Rattle.gw_objects.proofs.copying.states.Given as goal

abbrev pub invariant-loop-one : goal.invariant-loop-one
invariant-loop-one l = l.states.items ≡ map (λ object. no_command (default_of object.value)) (take l.one-index l.objects)
