use Rattle.std.proofs.Common.{take}
use Rattle.gw_script.specs.Order.{in_order}
use Rattle.gw_policy_review.specs.warnings.Warnings.{route_lines}
use Rattle.gw_addr.proofs.Appended.{IsGrown}
use Rattle.gw_policy_review.proofs.warnings.route_warnings.put_routes.Given as goal

abbrev pub invariant-loop-index : goal.invariant-loop-index
invariant-loop-index l = IsGrown (in_order (route_lines l.ports) 0 (take l.index l.routes)) l.fn.out l.out
