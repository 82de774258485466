use Rattle.gw_policy_drafts.specs.suggestion.Own.{CoverAlike}
use Rattle.gw_policy_drafts.proofs.suggestion.cutting.cut_all.Given as goal

abbrev pub invariant-loop-field : goal.invariant-loop-field
invariant-loop-field l = CoverAlike l.fn.groups.items l.all.items
