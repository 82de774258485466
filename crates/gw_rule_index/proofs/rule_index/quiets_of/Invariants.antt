use Rattle.std.proofs.Common.{◌≡◌, map, take}
use Rattle.gw_rule_index.proofs.rule_index.quiets_of.Given as goal

abbrev pub invariant-loop-rule : goal.invariant-loop-rule
invariant-loop-rule l = l.quiets.items ≡ map (λ rule. rule.quiet) (take l.rule-index l.rules)
