use Rattle.std.proofs.Common.{◌≡◌, ◌++◌, take}
use Rattle.gw_script.specs.Order.{in_order}
use Rattle.gw_notices.specs.metrics.Text.{port_line}
use Rattle.gw_notices.proofs.metrics.text.put_ports.Given as goal

abbrev pub invariant-loop-place : goal.invariant-loop-place
invariant-loop-place l = l.out.items ≡ l.fn.out.items ++ in_order (port_line l.family) 1 (take l.place l.ports)
