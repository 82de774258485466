use Rattle.gw_policy_review.specs.warnings.Warnings.{route_lines}
use Rattle.gw_policy_review.proofs.warnings_lemmas.Lines.{item_failed, item_step, lines_end, lines_start}
use Rattle.gw_policy_review.proofs.warnings.route_warnings.put_routes.Goals as goal

pub loop-index-init : goal.loop-index-init
loop-index-init c = lines_start (route_lines c.args.ports.now) c.args.out.now

pub returns-in_err-put_route : goal.returns-in_err-put_route
returns-in_err-put_route c =
    item_failed _ c.from_residual.result (route_lines c.args.ports.now) c.args.routes.now c.loop-index.index c.index-routes-index.result c.args.out.now c.loop-index.out
    c.put_route.new.out c.index-routes-index.is c.from_residual.ensures.0 c.loop-index-test.true c.loop-index.invariant c.in_err-put_route.ensures

pub loop-index-preserved : goal.loop-index-preserved
loop-index-preserved c =
    item_step _ (route_lines c.args.ports.now) c.args.routes.now c.loop-index.index c.index-routes-index.result c.args.out.now c.loop-index.out c.put_route.new.out c.index-routes-index.is c.loop-index-test.true
    c.loop-index.invariant c.in_ok-put_route.ensures

pub returns : goal.returns
returns c =
    lines_end _ (route_lines c.args.ports.now) c.args.routes.now c.loop-index.index c.args.out.now c.loop-index.out c.loop-index-test.false c.loop-index.invariant
