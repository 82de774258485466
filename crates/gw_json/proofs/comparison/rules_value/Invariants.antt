use Rattle.std.proofs.Common.{◌≡◌, map, take}
use Rattle.gw_json.specs.Comparison.{rule_value}
use Rattle.gw_json.specs.internal.View.{values_view}
use Rattle.gw_json.proofs.comparison.rules_value.Given as goal

abbrev pub invariant-loop-number : goal.invariant-loop-number
invariant-loop-number l = values_view l.names.items ≡ map (rule_value l.fn.rules) (take l.number-index l.fn.numbers)
