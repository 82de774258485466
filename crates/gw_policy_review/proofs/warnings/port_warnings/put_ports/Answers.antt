use Rattle.gw_policy_review.specs.warnings.Warnings.{port_lines}
use Rattle.gw_policy_review.proofs.warnings_lemmas.Lines.{item_failed, item_step, lines_end, lines_start}
use Rattle.gw_policy_review.proofs.warnings.port_warnings.put_ports.Goals as goal

pub loop-place-init : goal.loop-place-init
loop-place-init c = lines_start (port_lines c.args.ports.now) c.args.out.now

pub returns-in_err-put_port : goal.returns-in_err-put_port
returns-in_err-put_port c =
    item_failed _ c.from_residual.result (port_lines c.args.ports.now) c.args.ports.now c.loop-place.place c.index-ports-place.result c.args.out.now c.loop-place.out
    c.put_port.new.out c.index-ports-place.is c.from_residual.ensures.0 c.loop-place-test.true c.loop-place.invariant c.in_err-put_port.ensures

pub loop-place-preserved : goal.loop-place-preserved
loop-place-preserved c =
    item_step _ (port_lines c.args.ports.now) c.args.ports.now c.loop-place.place c.index-ports-place.result c.args.out.now c.loop-place.out c.put_port.new.out c.index-ports-place.is c.loop-place-test.true
    c.loop-place.invariant c.in_ok-put_port.ensures

pub returns : goal.returns
returns c =
    lines_end _ (port_lines c.args.ports.now) c.args.ports.now c.loop-place.place c.args.out.now c.loop-place.out c.loop-place-test.false c.loop-place.invariant
