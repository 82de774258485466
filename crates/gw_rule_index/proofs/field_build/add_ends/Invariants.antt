use Rattle.std.proofs.Common.{◌≡◌, ◌++◌, take}
use Rattle.std.specs.List.{flat_map}
use Rattle.gw_rule_index.specs.internal.Bounds.{ends}
use Rattle.gw_rule_index.proofs.field_build.add_ends.Given as goal

abbrev pub invariant-loop-range : goal.invariant-loop-range
invariant-loop-range l = l.numbers.items ≡ l.fn.numbers.items ++ flat_map ends (take l.range-index l.ranges)
