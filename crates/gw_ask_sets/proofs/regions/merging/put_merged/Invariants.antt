use Rattle.std.proofs.Common.{◌++◌, ◌∷◌, [], List, length}
use Rattle.gw_ask_sets.specs.regions.Merging.{AreKept}
use Rattle.gw_ask_sets.specs.declared.regions.comparison.Found.{Found}
use Rattle.gw_ask_sets.proofs.regions.merging.put_merged.Given as goal

abbrev pub invariant-loop-partner : goal.invariant-loop-partner
invariant-loop-partner l = (rest : List Found) → AreKept (rest ++ (l.fn.done.items ++ l.fn.found ∷ [])) (rest ++ (l.done.items ++ l.carried ∷ []))

-- each turn has one less
abbrev pub decreases-loop-partner : goal.decreases-loop-partner
decreases-loop-partner l = length l.done.items
