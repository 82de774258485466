use Rattle.std.proofs.Common.{◌≡◌, map, take}
use Rattle.gw_configuration.specs.Duplicates.{rule_names}
use Rattle.gw_configuration.proofs.duplicates.second_rule.Given as goal

abbrev pub invariant-loop-rule : goal.invariant-loop-rule
invariant-loop-rule l = map (λ t. t.now) l.all.items ≡ rule_names (take l.rule-index l.rules)
