use Rattle.std.proofs.Common.{◌≡◌, take, true}
use Rattle.std.specs.List.{list_all}
use Rattle.gw_rules.specs.Ask.{Ask}
use Rattle.gw_policy_drafts.specs.suggestion.Own.{covered}
use Rattle.gw_policy_drafts.specs.suggestion.Suggestion.{matched}
use Rattle.gw_policy_drafts.proofs.suggestion.rules.rules_of.Given as goal

abbrev pub invariant-loop-place : goal.invariant-loop-place
invariant-loop-place l = record {
  matching : (ask : Ask) → matched l.rules.items ask ≡ covered (take l.place l.groups) ask;
  allow : list_all (λ rule. rule.allow) l.rules.items ≡ true;
}
