use Rattle.gw_notices.proofs.AppendLemmas.{two_writes}
use Rattle.gw_service.specs.Holding.{held_text}
use Rattle.gw_service.proofs.holding.HoldingStateKeeper.write_more.Goals as goal

pub returns-clause-ok : goal.returns-clause-ok
returns-clause-ok g c =
    let held = g.E.OctetSink.held in
    let holding = c.args.self.now in
    two_writes c.write_held.result (held c.args.errors.now) (held c.write_more.new.errors) (held c.write_held.new.errors)
    (g.K.StateKeeper.conduct.more holding.keeper c.args.rules c.args.gateway.now) (held_text holding.withheld holding.waiting)
    c.in_ok-write_more.ensures.ok c.write_held.ensures.ok
