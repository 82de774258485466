use Rattle.std.proofs.Common.{◌≡◌, ◌++◌, take}
use Rattle.std.specs.List.{flat_map}
use Rattle.gw_policy_review.specs.permissions.Permissions.{hidden_line}
use Rattle.gw_policy_review.proofs.permissions.objects.put_plain_object.Given as goal

abbrev pub invariant-loop-port : goal.invariant-loop-port
invariant-loop-port l = l.out.items ≡ l.fn.out.items ++ flat_map (hidden_line l.rules l.at.number l.at.object.now) (take l.port-index l.ports)
