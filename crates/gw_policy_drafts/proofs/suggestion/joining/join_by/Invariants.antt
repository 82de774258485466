use Rattle.std.proofs.Common.{◌≡◌, take}
use Rattle.gw_rules.specs.Ask.{Ask}
use Rattle.gw_policy_drafts.specs.suggestion.Own.{covered}
use Rattle.gw_policy_drafts.proofs.suggestion.joining.join_by.Given as goal

abbrev pub invariant-loop-group : goal.invariant-loop-group
invariant-loop-group l = (ask : Ask) → covered l.done.items ask ≡ covered (take l.group-index l.groups) ask
