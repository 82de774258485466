use Rattle.std.proofs.Common.{ap, length, List, arith}
use Rattle.gw_state.specs.declared.port.SavedPort.{SavedPort}
use Rattle.gw_state.specs.declared.origin.OriginPort.{OriginPort}
use Rattle.gw_state.specs.declared.counts.SavedCounts.{SavedCounts}
use Rattle.gw_tables.specs.routes.Table.{Routed}
use Rattle.gw_core.proofs.Resuming.{accepted, few_saved}
use Rattle.gw_core.proofs.gateway.Gateway.save.Goals as goal

pub unwrap-requires : goal.unwrap-requires
unwrap-requires c =
    let saved = few_saved c.ports.result.now c.ports-2.result.now in
    let ports = ap (λ (ports : List SavedPort). length ports) c.in_ok-ports.ensures in
    let origins = ap (λ (ports : List OriginPort). length ports) c.ports.ensures.ports in
    let most = c.ports.ensures.most in
    let routes = ap (λ (routes : Routed). length routes) c.in_ok-routes.ensures.learned in
    let few = c.learned.ensures.few in
    let since = c.ticks.ensures in
    let later = c.self.invariant.later in
    let counts : SavedCounts = record {
      since = c.ticks.result;
      ticks = c.self.inside.counts.ticks;
      denials = c.self.inside.counts.denials;
    } in
    c.new.ensures.accepted.1
    (accepted c.in_ok-ports.ports.items c.in_ok-routes.routes.items c.in_ok-objects.objects.items counts
    (omega (arith, saved, ports, origins, most)) (omega (arith, routes, few)) c.in_ok-objects.ensures.most
    (omega (arith, since, later)) c.self.invariant.ticks c.self.invariant.denials)
