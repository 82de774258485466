use Rattle.std.proofs.Common.{◌≡◌, ◌++◌, take}
use Rattle.gw_policy_review.specs.permissions.Permissions.{reach_lines}
use Rattle.gw_script.specs.Order.{in_order}
use Rattle.gw_policy_review.proofs.permissions.reach.put_reaches.Given as goal

abbrev pub invariant-loop-place : goal.invariant-loop-place
invariant-loop-place l = l.out.items ≡ l.fn.out.items ++ in_order (reach_lines l.placed.config.now l.placed.lines.now) 1 (take l.place l.rules)
