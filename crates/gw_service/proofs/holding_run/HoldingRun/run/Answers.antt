use Rattle.std.proofs.Common.{refl}
use Rattle.gw_configuration.specs.Configuration.{Configuration}
use Rattle.gw_notices.specs.declared.troubles.Troubles.{Troubles}
use Rattle.gw_service.specs.Holding.{hold, holding_manner, more_holding, stage_of}
use Rattle.gw_service.specs.Kept.{rest}
use Rattle.gw_service.specs.Scheduled.{reporting_by}
use Rattle.gw_service.specs.Serving.{ends}
use Rattle.gw_service.specs.Stats.{end_stats}
use Rattle.gw_service.proofs.HoldingRunLemmas.{ran_holding}
use Rattle.gw_service.proofs.holding_run.HoldingRun.run.Goals as goal

pub returns-clause-runs : goal.returns-clause-runs
returns-clause-runs g c = λ config is_config.
    let old = c.args.self.now in
    let new = c.serve-answer.new.self in
    let how = reporting_by c.args.schedule.now in
    let held = g.E.OctetSink.held in
    let never = g.E.OctetSink.NeverFails in
    let recorded = g.Q.Requests.recorded in
    let log = g.L.OctetSink.held c.serve-answer.new.log in
    let calls = g.W.Wire.calls c.serve-answer.new.wire in
    ran_holding (holding_manner g.K.Guard.Passes g.K.StateKeeper.conduct how)
    (end_stats (λ h. g.K.StateKeeper.conduct.unkept h.keeper) (more_holding g.K.StateKeeper.conduct.more) how) how.start c.args.self.now.running.state.left
    (λ (t : Troubles). stage_of recorded config (record old.running { said = t }) (g.L.OctetSink.held c.args.log.now) (g.W.Wire.calls c.args.wire.now))
    (λ (t : Troubles). stage_of recorded config (record old.running { said = t; announcing = c.announce.new.self })
    (g.L.OctetSink.held c.args.log.now) (g.W.Wire.calls c.announce.new.wire))
    new.running.origin old.running.said c.notice-self.result (g.K.StateKeeper.conduct.troubles old.running.keeper.keeper) old.waiting
    (λ (d : Configuration). hold (stage_of recorded d new.running log calls) new.waiting)
    c.serve-answer.result (ends log calls) (rest c.end.new.self.keeper (recorded c.end.new.self.requests))
    (never c.args.errors.now) (never c.notice-self.new.errors) (never c.serve-answer.new.errors) (held c.args.errors.now)
    (held c.notice-self.new.errors) (held c.serve-answer.new.errors) (held c.end.new.errors) c.requires.untold
    c.notice-self.ensures.troubles c.requires.none (λ t. refl) (λ t. record { announced = c.announce.ensures.announces; is = refl })
    (c.serve-answer.ensures.runs config is_config) (λ d. refl) (λ d. refl)
    c.notice-self.ensures.text c.notice-self.ensures.lasts c.serve-answer.ensures.lasts
    (λ d. c.end.ensures.ends d log calls)
