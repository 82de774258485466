use Rattle.std.proofs.Common.{◌≡◌, ◌++◌, take}
use Rattle.std.specs.List.{flat_map}
use Rattle.gw_policy_review.specs.comparison.Asks.{other_region}
use Rattle.gw_policy_review.proofs.comparison.asks.push_others.Given as goal

abbrev pub invariant-loop-shape : goal.invariant-loop-shape
invariant-loop-shape l = l.out.items ≡ l.fn.out.items ++ flat_map (other_region l.known) (take l.shape-index l.shapes)
