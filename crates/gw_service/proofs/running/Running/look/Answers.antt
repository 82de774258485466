use Rattle.std.proofs.Common.{ℕ, List, ap, subst, sym}
use Rattle.gw_system.specs.Requests.{answered, asked_for, asked_to_say}
use Rattle.gw_system.proofs.RequestLemmas.{goes_two}
use Rattle.gw_notices.specs.Notices.{IsStatusAnswer}
use Rattle.gw_service.specs.Metering.{lost_by, metered}
use Rattle.gw_service.specs.Scheduled.{reporting_by}
use Rattle.gw_service.specs.Stats.{all_stats}
use Rattle.gw_service.proofs.ChainLemmas.{asked_so, inquired_so, says_status}
use Rattle.gw_service.proofs.running.Running.look.Goals as goal

pub returns-in-Some-Status-clause-looked : goal.returns-in-Some-Status-clause-looked
returns-in-Some-Status-clause-looked g c =
    let old = c.args.self.now in
    let said = g.Q.Requests.recorded in
    let report = all_stats g.K.StateKeeper.conduct.unkept g.K.StateKeeper.conduct.more (reporting_by c.args.schedule.now)
    old.keeper old.counts old.announcing (lost_by (metered old.metrics)) old.gateway old.state.served old.state.tally in
    let asks = asked_so (said old.requests) (said c.take.new.self) c.take.result c.in-Some-Status.field-0 asked_to_say c.in-Some-Status.is
    (ap asked_for c.in-Some-Status.field-0-is) c.take.ensures in
    let says = says_status report c.status-text.result c.status-text.ensures in
    inquired_so g.K.StateKeeper.conduct.Adopts old.origin old.gateway old.keeper (said old.requests) (said c.answer.new.self) c.status_or.result.now old.counts
    old.announcing (g.E.OctetSink.NeverFails c.args.errors.now) (g.E.OctetSink.held c.args.errors.now) g.L.Notes.Takes c.args.log.now
    report
    (goes_two (said old.requests) (said c.take.new.self) (said c.answer.new.self) asked_to_say (answered c.status_or.result.now) asks c.answer.ensures)
    (subst (λ (t : List ℕ). IsStatusAnswer report t) (sym c.status_or.ensures) says)
