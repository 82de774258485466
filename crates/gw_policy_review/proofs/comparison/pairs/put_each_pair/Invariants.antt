use Rattle.std.proofs.Common.{◌≡◌, ◌++◌, take}
use Rattle.std.specs.List.{flat_map}
use Rattle.gw_policy_review.specs.comparison.PairLines.{pair_text}
use Rattle.gw_policy_review.proofs.comparison.pairs.put_each_pair.Given as goal

abbrev pub invariant-loop-shown : goal.invariant-loop-shown
invariant-loop-shown l = l.out.items ≡ l.fn.out.items ++ flat_map (pair_text l.old l.new) (take l.shown-index l.found)
