use Rattle.std.proofs.Common.{arith, length, rules, ◌≡◌, get_or, subst, ◌++◌, ◌+◌, sym}
use Rattle.gw_configuration.specs.declared.port.Port.{Port}
use Rattle.gw_notices.specs.Startup.{port_text}
use Rattle.gw_script.proofs.Order.{in_order_end, in_order_none, in_order_step}
use Rattle.gw_notices.proofs.startup.put_ports.Goals as goal

pub loop-place-init : goal.loop-place-init
loop-place-init c = in_order_none port_text c.args.out.now.items

pub loop-place-preserved : goal.loop-place-preserved
loop-place-preserved c =
    let port = c.index-ports-place.result in
    let here : get_or c.args.ports.now c.loop-place.place port ≡ port = search rules in
    let then : c.put_port.new.out.items ≡ c.loop-place.out.items ++ port_text (c.loop-place.place + 1) port = search rules in
    in_order_step port_text c.args.out.now.items c.loop-place.out.items c.put_port.new.out.items c.args.ports.now c.loop-place.place port
    c.loop-place-test.true c.loop-place.invariant
    (subst (λ (p : Port). c.put_port.new.out.items ≡ c.loop-place.out.items ++ port_text (c.loop-place.place + 1) p) (sym here) then)

pub returns : goal.returns
returns c =
    let ends : c.loop-place.place ≡ length c.args.ports.now = omega (arith, c.loop-place.auto.place-end, c.loop-place-test.false) in
    in_order_end port_text c.args.out.now.items c.loop-place.out.items c.args.ports.now c.loop-place.place ends c.loop-place.invariant
