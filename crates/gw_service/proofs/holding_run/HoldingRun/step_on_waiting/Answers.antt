use Rattle.std.proofs.Common.{ℕ, refl, subst, sym}
use Rattle.gw_service.specs.Holding.{GoesTo, counting, hold, holding_manner, stage_of}
use Rattle.gw_service.specs.Scheduled.{reporting_by}
use Rattle.gw_service.proofs.HoldingRunLemmas.{goes_over_waiting}
use Rattle.gw_service.proofs.holding_run.HoldingRun.step_on_waiting.Goals as goal

pub returns-clause-comes : goal.returns-clause-comes
returns-clause-comes g c = λ config is_config log.
    let how = holding_manner g.K.Guard.Passes g.K.StateKeeper.conduct (reporting_by c.args.schedule.now) in
    let old = c.args.self.now in
    let now = c.advance-ended.new in
    let done = c.advance-ended.ensures.advances config is_config in
    let calls = g.W.Wire.calls in
    let then = stage_of g.Q.Requests.recorded done.0 now.self log (calls now.wire) in
    let before = hold (stage_of g.Q.Requests.recorded config old.running log (calls c.args.wire.now)) old.waiting in (
      done.0,
      done.1,
      done.2,
      subst (λ (n : ℕ). GoesTo how before c.advance-ended.result done.1 (hold (counting then n then.now.guard.withheld) now.log)) (sym c.len-self.ensures.count)
          (goes_over_waiting how c.args.self.now.running.state.left (stage_of g.Q.Requests.recorded config old.running log (calls c.args.wire.now)) then old.waiting
          now.log c.advance-ended.result done.1 _ c.requires.some refl done.3),
      done.4,
    )
