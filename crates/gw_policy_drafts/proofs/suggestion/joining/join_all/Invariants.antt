use Rattle.std.proofs.Common.{length}
use Rattle.gw_policy_drafts.specs.suggestion.Own.{CoverAlike}
use Rattle.gw_policy_drafts.proofs.suggestion.joining.join_all.Given as goal

abbrev pub invariant-loop-all : goal.invariant-loop-all
invariant-loop-all l = CoverAlike l.fn.groups.items l.all.items

-- each turn leaves fewer
abbrev pub decreases-loop-all : goal.decreases-loop-all
decreases-loop-all l = length l.all.items
