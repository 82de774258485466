use Rattle.std.proofs.Common.{◌≡◌, ◌++◌, take}
use Rattle.std.specs.List.{flat_map}
use Rattle.gw_policy_drafts.specs.suggestion.Text.{rule_text}
use Rattle.gw_policy_drafts.proofs.suggestion.text.put_rules.Given as goal

abbrev pub invariant-loop-rule : goal.invariant-loop-rule
invariant-loop-rule l = l.out.items ≡ l.fn.out.items ++ flat_map (rule_text l.place l.asks) (take l.rule-index l.fn.rules)
