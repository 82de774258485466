use Rattle.std.proofs.Common.{◌≡◌, ◌++◌, take}
use Rattle.std.specs.List.{flat_map}
use Rattle.gw_policy_review.specs.comparison.Words.{other_text}
use Rattle.gw_policy_review.proofs.comparison.words.put_more_others.Given as goal

abbrev pub invariant-loop-range : goal.invariant-loop-range
invariant-loop-range l = l.out.items ≡ l.fn.out.items ++ flat_map (other_text l.field l.absent) (take l.range-index l.ranges)
