use Rattle.std.proofs.Common.{◌≡◌, ◌++◌, take}
use Rattle.gw_policy_review.specs.permissions.Permissions.{plain_lines}
use Rattle.gw_script.specs.Order.{in_order}
use Rattle.gw_policy_review.proofs.permissions.objects.put_plain.Given as goal

abbrev pub invariant-loop-place : goal.invariant-loop-place
invariant-loop-place l = l.out.items ≡ l.fn.out.items ++ in_order (plain_lines l.rules l.ports) 1 (take l.place l.objects)
