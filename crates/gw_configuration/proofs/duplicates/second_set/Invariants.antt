use Rattle.std.proofs.Common.{◌≡◌, map, take}
use Rattle.gw_configuration.specs.Duplicates.{set_names}
use Rattle.gw_configuration.proofs.duplicates.second_set.Given as goal

abbrev pub invariant-loop-set : goal.invariant-loop-set
invariant-loop-set l = map (λ t. t.now) l.all.items ≡ set_names (take l.set-index l.sets)
