use Rattle.std.proofs.Common.{◌++◌, List, length}
use Rattle.gw_rules.specs.declared.rule.Rule.{Rule}
use Rattle.gw_ask_sets.specs.regions.Comparing.{IsSummary}
use Rattle.gw_ask_sets.specs.regions.Presence.{OrNoneIsMeant}
use Rattle.gw_ask_sets.specs.regions.Regions.{Region}
use Rattle.gw_policy_review.specs.comparison.Operations.{OperationsAreMeant}
use Rattle.gw_policy_review.proofs.comparison.operations.narrow_all.Given as goal

abbrev pub invariant-loop-next : goal.invariant-loop-next
invariant-loop-next l = record {
  summary : (old new : List Rule) (left : List Region) →
      IsSummary l.shapes old new l.fn.found.items left → IsSummary l.shapes old new (l.rest.items ++ l.done.items) left;
  before : OrNoneIsMeant l.shapes l.rest.items;
  meant : OrNoneIsMeant l.shapes l.done.items;
  operations : OperationsAreMeant l.shapes l.done.items;
}

-- each turn takes one up
abbrev pub decreases-loop-next : goal.decreases-loop-next
decreases-loop-next l = length l.rest.items
