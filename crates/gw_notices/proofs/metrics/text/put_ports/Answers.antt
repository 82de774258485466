use Rattle.std.proofs.Common.{arith, length, ◌≡◌}
use Rattle.gw_script.proofs.Order.{in_order_end, in_order_none, in_order_step}
use Rattle.gw_notices.specs.declared.metrics.counts.PortCounts.{PortCounts}
use Rattle.gw_notices.specs.metrics.Text.{port_line}
use Rattle.gw_notices.proofs.metrics.text.put_ports.Goals as goal

pub loop-place-init : goal.loop-place-init
loop-place-init c = in_order_none (port_line c.args.family) c.args.out.now.items

pub loop-place-preserved : goal.loop-place-preserved
loop-place-preserved c =
    let none : PortCounts = record { foreign_devices = 0; datagrams = 0; drops = 0; sends = 0; send_failures = 0 } in
    in_order_step (port_line c.args.family) c.args.out.now.items c.loop-place.out.items c.put_port.new.out.items c.args.ports.now c.loop-place.place
    none c.loop-place-test.true c.loop-place.invariant c.in_ok-put_port.ensures

pub returns : goal.returns
returns c =
    let ends : c.loop-place.place ≡ length c.args.ports.now = omega (arith, c.loop-place.auto.place-end, c.loop-place-test.false) in
    in_order_end (port_line c.args.family) c.args.out.now.items c.loop-place.out.items c.args.ports.now c.loop-place.place ends c.loop-place.invariant
