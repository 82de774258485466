use Rattle.std.proofs.Common.{◌≡◌, ◌++◌, take}
use Rattle.gw_policy_review.specs.warnings.Oversights.{port_oversights}
use Rattle.gw_script.specs.Order.{in_order}
use Rattle.gw_policy_review.proofs.warnings.station_oversights.put_ports.Given as goal

abbrev pub invariant-loop-place : goal.invariant-loop-place
invariant-loop-place l = l.out.items ≡ l.fn.out.items ++ in_order (port_oversights l.config) 1 (take l.place l.ports)
