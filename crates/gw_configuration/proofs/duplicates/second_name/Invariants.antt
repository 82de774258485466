use Rattle.std.proofs.Common.{◌≡◌, map, take}
use Rattle.gw_configuration.specs.Duplicates.{names}
use Rattle.gw_configuration.proofs.duplicates.second_name.Given as goal

abbrev pub invariant-loop-object : goal.invariant-loop-object
invariant-loop-object l = map (λ t. t.now) l.all.items ≡ names l.device (take l.object-index l.objects)
