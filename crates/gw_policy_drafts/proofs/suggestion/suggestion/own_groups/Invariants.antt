use Rattle.std.proofs.Common.{◌≡◌, take}
use Rattle.gw_rules.specs.Ask.{Ask}
use Rattle.gw_policy_drafts.specs.suggestion.Own.{covered}
use Rattle.gw_policy_drafts.specs.suggestion.Suggestion.{matched_own}
use Rattle.gw_policy_drafts.proofs.suggestion.suggestion.own_groups.Given as goal

abbrev pub invariant-loop-ask : goal.invariant-loop-ask
invariant-loop-ask l = (ask : Ask) → covered l.groups.items ask ≡ matched_own l.keeps (take l.ask-index l.asks) ask
