use Rattle.std.proofs.Common.{rules, ◌≡◌, ◌++◌, get_or, subst, sym}
use Rattle.gw_configuration.specs.declared.route.Route.{Route}
use Rattle.gw_policy_review.specs.permissions.Permissions.{route_line}
use Rattle.gw_ask_sets.proofs.shapes_lemmas.Listing.{flat_step}
use Rattle.gw_policy_review.proofs.permissions.networks.put_routes.Goals as goal

pub loop-route-preserved : goal.loop-route-preserved
loop-route-preserved c =
    let route = c.route-item.result in
    let here : get_or c.args.routes.now c.loop-route.route-index route ≡ route = search rules in
    flat_step route_line c.args.routes.now c.loop-route.route-index route c.args.out.now.items c.loop-route.out.items c.put_route.new.out.items
    c.loop-route-test.true c.loop-route.invariant
    (subst (λ (r : Route). c.put_route.new.out.items ≡ c.loop-route.out.items ++ route_line r) (sym here) c.in_ok-put_route.ensures)
