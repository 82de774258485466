use Rattle.std.proofs.Common.{◌++◌, List, length}
use Rattle.gw_rules.specs.declared.rule.Rule.{Rule}
use Rattle.gw_ask_sets.specs.regions.Comparing.{IsSummary}
use Rattle.gw_ask_sets.specs.regions.Regions.{Region}
use Rattle.gw_ask_sets.proofs.regions.widening.widen_all.Given as goal

abbrev pub invariant-loop-next : goal.invariant-loop-next
invariant-loop-next l = (old new : List Rule) (left : List Region) →
    IsSummary l.shapes old new l.fn.found.items left → IsSummary l.shapes old new (l.rest.items ++ l.done.items) left

-- each turn takes one up
abbrev pub decreases-loop-next : goal.decreases-loop-next
decreases-loop-next l = length l.rest.items
