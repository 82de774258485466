use Rattle.std.proofs.Common.{◌≡◌, [], take}
use Rattle.gw_policy_drafts.specs.suggestion.Suggestion.{each}
use Rattle.gw_policy_drafts.proofs.suggestion.front.are_all_empty.Given as goal

abbrev pub invariant-loop-text : goal.invariant-loop-text
invariant-loop-text l = take l.text-index l.texts ≡ each l.text-index []
