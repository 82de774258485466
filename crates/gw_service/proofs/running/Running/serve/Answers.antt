use Rattle.std.proofs.Common.{◌<◌, Result, Ok, Option, arith, refl, subst}
use Rattle.gw_configuration.specs.Configuration.{Configuration}
use Rattle.gw_script.proofs.Passing.{passes_on}
use Rattle.gw_turns.specs.Serve.{scene}
use Rattle.gw_turns.specs.Stretch.{moment}
use Rattle.gw_turns.specs.declared.serving.ServeFault.{ServeFault}
use Rattle.gw_service.specs.Chain.{FailsToLast, Stage, WasLasting, edge, stage}
use Rattle.gw_service.specs.declared.running.RunEnd.{RunEnd}
use Rattle.gw_service.specs.Metering.{metered}
use Rattle.gw_service.specs.Conduct.{manner_by}
use Rattle.gw_service.specs.Scheduled.{reporting_by}
use Rattle.gw_service.proofs.ChainLemmas.{Advanced, Ran, chained_more, chained_none, ran_ended, ran_until}
use Rattle.gw_service.proofs.running.Running.serve.Goals as goal

pub loop-init : goal.loop-init
loop-init g c =
    let how = manner_by g.K.Guard.Passes g.K.StateKeeper.conduct (reporting_by c.args.schedule.now) in
    let old = c.args.self.now in (
      omega arith,
      refl,
      c.requires.count,
      λ never. never,
      chained_none how old.origin
          (λ (config : Configuration). stage config (moment (scene old.gateway (g.L.OctetSink.held c.args.log.now) (g.W.Wire.calls c.args.wire.now))
          old.keeper old.state.served old.state.tally) (g.Q.Requests.recorded old.requests) old.counts old.announcing old.said (metered old.metrics))
          (g.E.OctetSink.NeverFails c.args.errors.now) (g.E.OctetSink.held c.args.errors.now),
    )

pub loop-preserved : goal.loop-preserved
loop-preserved g c =
    let how = manner_by g.K.Guard.Passes g.K.StateKeeper.conduct (reporting_by c.args.schedule.now) in
    let old = c.args.self.now in
    let now = c.loop.self in
    let new = c.advance.new.self in
    let kept = c.loop.invariant in
    let some : 0 < now.state.left = omega (arith, c.if-self-eq0.false) in
    let more : now.state.served.turns < new.state.served.turns = c.in_ok-ended.ensures.more some in
    let counted = c.advance.ensures.left in
    let never = g.E.OctetSink.NeverFails in
    let held = g.E.OctetSink.held in
    let at : Configuration → Stage _ = λ (config : Configuration). stage config
    (moment (scene now.gateway (g.L.OctetSink.held c.loop.log) (g.W.Wire.calls c.loop.wire)) now.keeper now.state.served now.state.tally)
    (g.Q.Requests.recorded now.requests) now.counts now.announcing now.said (metered now.metrics) in
    let next : Configuration → Stage _ = λ (config : Configuration). stage config
    (moment (scene new.gateway (g.L.OctetSink.held c.advance.new.log) (g.W.Wire.calls c.advance.new.wire)) new.keeper
    new.state.served new.state.tally) (g.Q.Requests.recorded new.requests) new.counts new.announcing new.said (metered new.metrics) in
    let left_by = edge (g.W.Wire.behind c.advance.new.wire) (WasLasting g.L.Lasting.IsLasting g.L.OctetSink.held c.advance.new.log)
    (FailsToLast g.L.Lasting.Syncs c.advance.new.log) new.state.unwritten.items in (
      omega (arith, more, counted, kept.0),
      omega (arith, counted, kept.1),
      c.advance.ensures.rest,
      λ never. c.advance.ensures.lasts (kept.3 never),
      chained_more how now.state.left old.origin now.origin new.origin
          (λ (config : Configuration). stage config (moment (scene old.gateway (g.L.OctetSink.held c.args.log.now) (g.W.Wire.calls c.args.wire.now))
          old.keeper old.state.served old.state.tally) (g.Q.Requests.recorded old.requests) old.counts old.announcing old.said (metered old.metrics))
          at next left_by
          (g.E.OctetSink.NeverFails c.args.errors.now) (g.E.OctetSink.NeverFails c.loop.errors)
          (g.E.OctetSink.held c.args.errors.now) (g.E.OctetSink.held c.loop.errors) (g.E.OctetSink.held c.advance.new.errors)
          kept.4 (subst (λ (ending : Option RunEnd). Advanced how now.state.left now.origin at (Ok ending) new.origin next left_by (never c.loop.errors)
          (held c.loop.errors) (held c.advance.new.errors)) c.in-None.is c.in_ok-ended.ensures.advances) kept.3,
    )

pub returns-in_err-ended-clause-runs : goal.returns-in_err-ended-clause-runs
returns-in_err-ended-clause-runs g c =
    let how = manner_by g.K.Guard.Passes g.K.StateKeeper.conduct (reporting_by c.args.schedule.now) in
    let old = c.args.self.now in
    let now = c.loop.self in
    let new = c.advance.new.self in
    let kept = c.loop.invariant in
    let fault = c.in_err-ended.field-0.0 in
    let never = g.E.OctetSink.NeverFails in
    let held = g.E.OctetSink.held in
    let first : Configuration → Stage _ = λ (config : Configuration). stage config
    (moment (scene old.gateway (g.L.OctetSink.held c.args.log.now) (g.W.Wire.calls c.args.wire.now)) old.keeper old.state.served old.state.tally)
    (g.Q.Requests.recorded old.requests) old.counts old.announcing old.said (metered old.metrics) in
    let last : Configuration → Stage _ = λ (config : Configuration). stage config
    (moment (scene new.gateway (g.L.OctetSink.held c.advance.new.log) (g.W.Wire.calls c.advance.new.wire)) new.keeper new.state.served
    new.state.tally) (g.Q.Requests.recorded new.requests) new.counts new.announcing new.said (metered new.metrics) in
    passes_on (λ (r : Result RunEnd ServeFault). Ran how c.args.self.now.state.left old.origin first r new.origin last (never c.args.errors.now)
    (held c.args.errors.now) (held c.advance.new.errors)) fault c.from_residual.result c.from_residual.ensures
    (ran_until how c.args.self.now.state.left now.state.left old.origin now.origin new.origin first
    (λ (config : Configuration). stage config (moment (scene now.gateway (g.L.OctetSink.held c.loop.log) (g.W.Wire.calls c.loop.wire))
    now.keeper now.state.served now.state.tally) (g.Q.Requests.recorded now.requests) now.counts now.announcing now.said (metered now.metrics))
    last fault (edge (g.W.Wire.behind c.advance.new.wire) (WasLasting g.L.Lasting.IsLasting g.L.OctetSink.held c.advance.new.log)
    (FailsToLast g.L.Lasting.Syncs c.advance.new.log) new.state.unwritten.items)
    (never c.args.errors.now) (never c.loop.errors) (held c.args.errors.now) (held c.loop.errors) (held c.advance.new.errors)
    kept.4 c.in_err-ended.ensures.advances kept.3 (λ a b. kept.1))

pub returns-in-Some-clause-runs : goal.returns-in-Some-clause-runs
returns-in-Some-clause-runs g c =
    let how = manner_by g.K.Guard.Passes g.K.StateKeeper.conduct (reporting_by c.args.schedule.now) in
    let old = c.args.self.now in
    let now = c.loop.self in
    let new = c.advance.new.self in
    let kept = c.loop.invariant in
    let never = g.E.OctetSink.NeverFails in
    let held = g.E.OctetSink.held in
    let first : Configuration → Stage _ = λ (config : Configuration). stage config
    (moment (scene old.gateway (g.L.OctetSink.held c.args.log.now) (g.W.Wire.calls c.args.wire.now)) old.keeper old.state.served old.state.tally)
    (g.Q.Requests.recorded old.requests) old.counts old.announcing old.said (metered old.metrics) in
    let at : Configuration → Stage _ = λ (config : Configuration). stage config
    (moment (scene now.gateway (g.L.OctetSink.held c.loop.log) (g.W.Wire.calls c.loop.wire)) now.keeper now.state.served now.state.tally)
    (g.Q.Requests.recorded now.requests) now.counts now.announcing now.said (metered now.metrics) in
    let next : Configuration → Stage _ = λ (config : Configuration). stage config
    (moment (scene new.gateway (g.L.OctetSink.held c.advance.new.log) (g.W.Wire.calls c.advance.new.wire)) new.keeper
    new.state.served new.state.tally) (g.Q.Requests.recorded new.requests) new.counts new.announcing new.said (metered new.metrics) in
    let left_by = edge (g.W.Wire.behind c.advance.new.wire) (WasLasting g.L.Lasting.IsLasting g.L.OctetSink.held c.advance.new.log)
    (FailsToLast g.L.Lasting.Syncs c.advance.new.log) new.state.unwritten.items in
    ran_ended how c.args.self.now.state.left now.state.left old.origin now.origin new.origin first at next left_by
    (never c.args.errors.now) (never c.loop.errors) (held c.args.errors.now) (held c.loop.errors) (held c.advance.new.errors) c.in-Some.end
    kept.4 (subst (λ (ending : Option RunEnd). Advanced how now.state.left now.origin at (Ok ending) new.origin next left_by (never c.loop.errors)
    (held c.loop.errors) (held c.advance.new.errors)) c.in-Some.is c.in_ok-ended.ensures.advances) kept.3 (λ a b. kept.1)
