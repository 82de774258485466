use Rattle.std.proofs.Common.{◌≡◌, ◌+◌, length, sum_by, take}
use Rattle.gw_rules.specs.Rule.{ranges_of}
use Rattle.gw_rules.proofs.rule_list.have_few_for.Given as goal

abbrev pub invariant-loop-rule : goal.invariant-loop-rule
invariant-loop-rule l = l.left + sum_by (λ rule. length (ranges_of l.field rule)) (take l.rule-index l.rules) ≡ 2048
