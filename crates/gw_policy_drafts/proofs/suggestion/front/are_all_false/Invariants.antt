use Rattle.std.proofs.Common.{◌≡◌, false, take}
use Rattle.gw_policy_drafts.specs.suggestion.Suggestion.{each}
use Rattle.gw_policy_drafts.proofs.suggestion.front.are_all_false.Given as goal

abbrev pub invariant-loop-flag : goal.invariant-loop-flag
invariant-loop-flag l = take l.flag-index l.flags ≡ each l.flag-index false
