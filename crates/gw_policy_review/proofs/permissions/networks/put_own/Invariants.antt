use Rattle.std.proofs.Common.{◌≡◌, ◌++◌, take}
use Rattle.gw_policy_review.specs.permissions.Permissions.{own_line}
use Rattle.gw_script.specs.Order.{in_order}
use Rattle.gw_policy_review.proofs.permissions.networks.put_own.Given as goal

abbrev pub invariant-loop-place : goal.invariant-loop-place
invariant-loop-place l = l.out.items ≡ l.fn.out.items ++ in_order (own_line) 1 (take l.place l.ports)
