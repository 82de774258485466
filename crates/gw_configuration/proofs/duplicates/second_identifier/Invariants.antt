use Rattle.std.proofs.Common.{◌≡◌, take}
use Rattle.gw_configuration.specs.Duplicates.{identifiers}
use Rattle.gw_configuration.proofs.duplicates.second_identifier.Given as goal

abbrev pub invariant-loop-object : goal.invariant-loop-object
invariant-loop-object l = l.all.items ≡ identifiers (take l.object-index l.objects)
