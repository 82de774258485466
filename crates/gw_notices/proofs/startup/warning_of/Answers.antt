use Rattle.std.proofs.Common.{Bool, [], refl, sym, subst}
use Rattle.gw_notices.specs.Startup.{IsWarning}
use Rattle.gw_notices.proofs.startup.warning_of.Goals as goal

pub returns-then-is_asked : goal.returns-then-is_asked
returns-then-is_asked g c =
    subst (λ (b : Bool). IsWarning (g.H.Host.offers c.args.host.now).RoutesIp b c.routing_note.result.now) (sym c.if-is_asked.true)
    (c.routes_ip.result, c.routes_ip.ensures, c.routing_note.ensures)

pub returns-else-is_asked : goal.returns-else-is_asked
returns-else-is_asked g c = subst (λ (b : Bool). IsWarning (g.H.Host.offers c.args.host.now).RoutesIp b []) (sym c.if-is_asked.false) refl
