use Rattle.std.proofs.Common.{◌<◌, Result, Ok, Option, arith, refl, subst}
use Rattle.gw_configuration.specs.Configuration.{Configuration}
use Rattle.gw_script.proofs.Passing.{passes_on}
use Rattle.gw_turns.specs.declared.serving.ServeFault.{ServeFault}
use Rattle.gw_service.specs.Holding.{Hold, hold, holding_manner, stage_of}
use Rattle.gw_service.specs.declared.running.RunEnd.{RunEnd}
use Rattle.gw_service.specs.Scheduled.{reporting_by}
use Rattle.gw_service.proofs.HoldingRunLemmas.{Gone, ServedSo, served_fault, served_so, served_whole, stepped_more, stepped_none}
use Rattle.gw_service.proofs.holding_run.HoldingRun.serve_steps.Goals as goal

pub loop-init : goal.loop-init
loop-init g c =
    let how = holding_manner g.K.Guard.Passes g.K.StateKeeper.conduct (reporting_by c.args.schedule.now) in
    let old = c.args.self.now in (
      omega arith,
      refl,
      c.requires.count,
      λ never. never,
      stepped_none how old.running.origin
          (λ (config : Configuration). hold (stage_of g.Q.Requests.recorded config old.running (g.L.OctetSink.held c.args.log.now)
          (g.W.Wire.calls c.args.wire.now)) old.waiting)
          (g.E.OctetSink.NeverFails c.args.errors.now) (g.E.OctetSink.held c.args.errors.now),
    )

pub loop-preserved : goal.loop-preserved
loop-preserved g c =
    let how = holding_manner g.K.Guard.Passes g.K.StateKeeper.conduct (reporting_by c.args.schedule.now) in
    let old = c.args.self.now in
    let now = c.loop.self in
    let new = c.step.new.self in
    let kept = c.loop.invariant in
    let some : 0 < now.running.state.left = omega (arith, c.if-self-eq0.false) in
    let more : now.running.state.served.turns < new.running.state.served.turns = c.in_ok-ended.ensures.more some in
    let counted = c.step.ensures.left in
    let never = g.E.OctetSink.NeverFails in
    let held = g.E.OctetSink.held in
    let at : Configuration → Hold _ = λ (config : Configuration). hold (stage_of g.Q.Requests.recorded config now.running (g.L.OctetSink.held c.loop.log)
    (g.W.Wire.calls c.loop.wire)) now.waiting in
    let next : Configuration → Hold _ = λ (config : Configuration). hold (stage_of g.Q.Requests.recorded config new.running (g.L.OctetSink.held c.step.new.log)
    (g.W.Wire.calls c.step.new.wire)) new.waiting in (
      omega (arith, more, counted, kept.0),
      omega (arith, counted, kept.1),
      c.step.ensures.rest,
      λ never. c.step.ensures.lasts (kept.3 never),
      stepped_more how old.running.origin now.running.origin new.running.origin
          (λ (config : Configuration). hold (stage_of g.Q.Requests.recorded config old.running (g.L.OctetSink.held c.args.log.now)
          (g.W.Wire.calls c.args.wire.now)) old.waiting)
          at next (never c.args.errors.now) (never c.loop.errors) (held c.args.errors.now) (held c.loop.errors) (held c.step.new.errors)
          kept.4 (subst (λ (ending : Option RunEnd). Gone how now.running.origin at (Ok ending) new.running.origin next (never c.loop.errors)
          (held c.loop.errors) (held c.step.new.errors)) c.in-None.is c.in_ok-ended.ensures.comes) kept.3,
    )

pub returns-in_err-ended-clause-serves : goal.returns-in_err-ended-clause-serves
returns-in_err-ended-clause-serves g c =
    let how = holding_manner g.K.Guard.Passes g.K.StateKeeper.conduct (reporting_by c.args.schedule.now) in
    let old = c.args.self.now in
    let now = c.loop.self in
    let new = c.step.new.self in
    let kept = c.loop.invariant in
    let fault = c.in_err-ended.field-0.0 in
    let never = g.E.OctetSink.NeverFails in
    let held = g.E.OctetSink.held in
    let first : Configuration → Hold _ = λ (config : Configuration). hold (stage_of g.Q.Requests.recorded config old.running
    (g.L.OctetSink.held c.args.log.now) (g.W.Wire.calls c.args.wire.now)) old.waiting in
    let at : Configuration → Hold _ = λ (config : Configuration). hold (stage_of g.Q.Requests.recorded config now.running (g.L.OctetSink.held c.loop.log)
    (g.W.Wire.calls c.loop.wire)) now.waiting in
    let last : Configuration → Hold _ = λ (config : Configuration). hold (stage_of g.Q.Requests.recorded config new.running (g.L.OctetSink.held c.step.new.log)
    (g.W.Wire.calls c.step.new.wire)) new.waiting in
    passes_on (λ (r : Result RunEnd ServeFault). ServedSo how c.args.self.now.running.state.left old.running.origin first r new.running.origin last (never c.args.errors.now)
    (held c.args.errors.now) (held c.step.new.errors)) fault c.from_residual.result c.from_residual.ensures
    (served_fault how c.args.self.now.running.state.left old.running.origin now.running.origin new.running.origin first at last fault
    (never c.args.errors.now) (never c.loop.errors) (held c.args.errors.now) (held c.loop.errors) (held c.step.new.errors)
    kept.4 c.in_err-ended.ensures.comes kept.3)

pub returns-in-Some-clause-serves : goal.returns-in-Some-clause-serves
returns-in-Some-clause-serves g c =
    let how = holding_manner g.K.Guard.Passes g.K.StateKeeper.conduct (reporting_by c.args.schedule.now) in
    let old = c.args.self.now in
    let now = c.loop.self in
    let new = c.step.new.self in
    let kept = c.loop.invariant in
    let never = g.E.OctetSink.NeverFails in
    let held = g.E.OctetSink.held in
    let first : Configuration → Hold _ = λ (config : Configuration). hold (stage_of g.Q.Requests.recorded config old.running
    (g.L.OctetSink.held c.args.log.now) (g.W.Wire.calls c.args.wire.now)) old.waiting in
    let at : Configuration → Hold _ = λ (config : Configuration). hold (stage_of g.Q.Requests.recorded config now.running (g.L.OctetSink.held c.loop.log)
    (g.W.Wire.calls c.loop.wire)) now.waiting in
    let last : Configuration → Hold _ = λ (config : Configuration). hold (stage_of g.Q.Requests.recorded config new.running (g.L.OctetSink.held c.step.new.log)
    (g.W.Wire.calls c.step.new.wire)) new.waiting in
    served_so how c.args.self.now.running.state.left old.running.origin now.running.origin new.running.origin first at last c.in-Some.end
    (never c.args.errors.now) (never c.loop.errors) (held c.args.errors.now) (held c.loop.errors) (held c.step.new.errors) kept.4
    (subst (λ (ending : Option RunEnd). Gone how now.running.origin at (Ok ending) new.running.origin last (never c.loop.errors)
    (held c.loop.errors) (held c.step.new.errors)) c.in-Some.is c.in_ok-ended.ensures.comes) kept.3

pub returns-then-self-eq0-clause-serves : goal.returns-then-self-eq0-clause-serves
returns-then-self-eq0-clause-serves g c =
    let how = holding_manner g.K.Guard.Passes g.K.StateKeeper.conduct (reporting_by c.args.schedule.now) in
    let old = c.args.self.now in
    let now = c.loop.self in
    let kept = c.loop.invariant in
    served_whole how c.args.self.now.running.state.left old.running.origin now.running.origin
    (λ (config : Configuration). hold (stage_of g.Q.Requests.recorded config old.running (g.L.OctetSink.held c.args.log.now)
    (g.W.Wire.calls c.args.wire.now)) old.waiting)
    (λ (config : Configuration). hold (stage_of g.Q.Requests.recorded config now.running (g.L.OctetSink.held c.loop.log)
    (g.W.Wire.calls c.loop.wire)) now.waiting)
    (g.E.OctetSink.NeverFails c.args.errors.now) (g.E.OctetSink.held c.args.errors.now) (g.E.OctetSink.held c.loop.errors) kept.4
    (λ a b. omega (arith, kept.1, c.if-self-eq0.true))

pub returns-clause-serves : goal.returns-clause-serves
returns-clause-serves g c =
    let how = holding_manner g.K.Guard.Passes g.K.StateKeeper.conduct (reporting_by c.args.schedule.now) in
    let old = c.args.self.now in
    let now = c.loop.self in
    let kept = c.loop.invariant in
    served_whole how c.args.self.now.running.state.left old.running.origin now.running.origin
    (λ (config : Configuration). hold (stage_of g.Q.Requests.recorded config old.running (g.L.OctetSink.held c.args.log.now)
    (g.W.Wire.calls c.args.wire.now)) old.waiting)
    (λ (config : Configuration). hold (stage_of g.Q.Requests.recorded config now.running (g.L.OctetSink.held c.loop.log)
    (g.W.Wire.calls c.loop.wire)) now.waiting)
    (g.E.OctetSink.NeverFails c.args.errors.now) (g.E.OctetSink.held c.args.errors.now) (g.E.OctetSink.held c.loop.errors) kept.4
    (λ a b. omega (arith, kept.0, kept.1, c.loop-test.false, c.loop.auto.counter-end))
