use Rattle.std.proofs.Common.{◌≡◌, map, take}
use Rattle.gw_rule_index.proofs.rule_index.verdicts_of.Given as goal

abbrev pub invariant-loop-rule : goal.invariant-loop-rule
invariant-loop-rule l = l.verdicts.items ≡ map (λ rule. rule.allow) (take l.rule-index l.rules)
