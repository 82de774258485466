use Rattle.std.proofs.Common.{◌≡◌, take}
use Rattle.gw_rule_index.specs.internal.Bounds.{field_ends}
use Rattle.gw_rule_index.proofs.field_build.ends_of.Given as goal

abbrev pub invariant-loop-rule : goal.invariant-loop-rule
invariant-loop-rule l = l.numbers.items ≡ field_ends l.field (take l.rule-index l.rules)
