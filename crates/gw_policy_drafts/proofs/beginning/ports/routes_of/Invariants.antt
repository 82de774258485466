use Rattle.std.proofs.Common.{◌≡◌, map, take}
use Rattle.gw_policy_drafts.specs.beginning.Ports.{route_of}
use Rattle.gw_policy_drafts.specs.beginning.Site.{site_of}
use Rattle.gw_policy_drafts.proofs.beginning.ports.routes_of.Given as goal

abbrev pub invariant-loop-router : goal.invariant-loop-router
invariant-loop-router l = l.routes.items ≡ map (route_of (site_of l.site)) (take l.router-index l.site.routers.items)
