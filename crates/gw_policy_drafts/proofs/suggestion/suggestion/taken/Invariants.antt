use Rattle.std.proofs.Common.{◌≡◌, take}
use Rattle.gw_policy_drafts.specs.suggestion.Given.{taken}
use Rattle.gw_policy_drafts.proofs.suggestion.suggestion.taken.Given as goal

abbrev pub invariant-loop-ask : goal.invariant-loop-ask
invariant-loop-ask l = l.some.items ≡ taken (take l.ask-index l.asks)
