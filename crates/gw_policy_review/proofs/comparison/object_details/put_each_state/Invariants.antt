use Rattle.std.proofs.Common.{◌≡◌, ◌++◌, take}
use Rattle.gw_policy_review.specs.comparison.Details.{state_line}
use Rattle.gw_script.specs.Order.{in_order}
use Rattle.gw_policy_review.proofs.comparison.object_details.put_each_state.Given as goal

abbrev pub invariant-loop-place : goal.invariant-loop-place
invariant-loop-place l = l.out.items ≡ l.fn.out.items ++ in_order (state_line l.head l.was) 1 (take l.place l.now)
