use Rattle.std.proofs.Common.{refl}
use Rattle.gw_turns.specs.Serve.{scene}
use Rattle.gw_turns.specs.Stretch.{moment}
use Rattle.gw_configuration.specs.Configuration.{Configuration}
use Rattle.gw_service.specs.Chain.{stage}
use Rattle.gw_service.specs.Serving.{ends}
use Rattle.gw_service.specs.Kept.{rest}
use Rattle.gw_service.specs.Metering.{metered}
use Rattle.gw_service.specs.Scheduled.{reporting_by}
use Rattle.gw_service.specs.Conduct.{manner_by}
use Rattle.gw_service.specs.Stats.{end_stats}
use Rattle.gw_notices.specs.declared.troubles.Troubles.{Troubles}
use Rattle.gw_service.proofs.KeptLemmas.{ran_from}
use Rattle.gw_service.proofs.running.Running.run.Goals as goal

pub returns-clause-runs : goal.returns-clause-runs
returns-clause-runs g c = λ config is_config.
    let old = c.args.self.now in
    let new = c.serve-answer.new.self in
    let how = reporting_by c.args.schedule.now in
    let held = g.E.OctetSink.held in
    let never = g.E.OctetSink.NeverFails in
    let log = g.L.OctetSink.held c.serve-answer.new.log in
    let calls = g.W.Wire.calls c.serve-answer.new.wire in
    ran_from (manner_by g.K.Guard.Passes g.K.StateKeeper.conduct how)
    (end_stats g.K.StateKeeper.conduct.unkept g.K.StateKeeper.conduct.more how) how.start c.args.self.now.state.left
    (λ (t : Troubles). stage config (moment (scene old.gateway (g.L.OctetSink.held c.args.log.now) (g.W.Wire.calls c.args.wire.now)) old.keeper
    old.state.served old.state.tally) (g.Q.Requests.recorded old.requests) old.counts old.announcing t (metered old.metrics))
    (λ (t : Troubles). stage config (moment (scene old.gateway (g.L.OctetSink.held c.args.log.now) (g.W.Wire.calls c.announce.new.wire)) old.keeper
    old.state.served old.state.tally) (g.Q.Requests.recorded old.requests) old.counts c.announce.new.self t (metered old.metrics))
    new.origin old.said c.notice-self.result (g.K.StateKeeper.conduct.troubles old.keeper)
    (λ (d : Configuration). stage d (moment (scene new.gateway log calls)
    new.keeper new.state.served new.state.tally) (g.Q.Requests.recorded new.requests) new.counts new.announcing new.said (metered new.metrics))
    c.serve-answer.result (ends log calls) (rest c.end.new.self.keeper (g.Q.Requests.recorded c.end.new.self.requests))
    (never c.args.errors.now) (never c.notice-self.new.errors) (never c.serve-answer.new.errors) (held c.args.errors.now)
    (held c.notice-self.new.errors) (held c.serve-answer.new.errors) (held c.end.new.errors) c.requires.untold
    c.notice-self.ensures.troubles (λ t. refl) (λ t. record { announced = c.announce.ensures.announces; is = refl })
    (c.serve-answer.ensures.runs config is_config) (λ d. refl) (λ d. refl)
    c.notice-self.ensures.text c.notice-self.ensures.lasts c.serve-answer.ensures.lasts
    (λ d. c.end.ensures.ends d log calls)
