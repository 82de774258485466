use Rattle.std.proofs.Common.{◌≡◌, ◌++◌, take}
use Rattle.std.specs.Prelude.{codes}
use Rattle.std.specs.List.{flat_map}
use Rattle.gw_policy_review.specs.comparison.Words.{range_text}
use Rattle.gw_policy_review.proofs.comparison.words.put_more_ranges.Given as goal

abbrev pub invariant-loop-range : goal.invariant-loop-range
invariant-loop-range l = l.out.items ≡ l.fn.out.items ++ flat_map (λ other. codes " or " ++ range_text l.field other) (take l.range-index l.ranges)
