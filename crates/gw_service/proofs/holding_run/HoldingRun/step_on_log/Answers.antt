use Rattle.std.proofs.Common.{◌∙◌, ◌++◌, List, [], ℕ, Bool, Option, ap, if◌then◌else◌, length, refl, subst, sym}
use Rattle.std.specs.Prelude.{Result, Ok, Err, None}
use Rattle.std.proofs.lemmas.List.{append-nil}
use Rattle.std.specs.Io.KnownBytes.{Appends}
use Rattle.gw_notices.proofs.AppendLemmas.{appends_two}
use Rattle.gw_turns.specs.declared.serving.ServeFault.{ServeFault}
use Rattle.gw_turns.specs.declared.serving.ServeFault.TheVariants as serving
use Rattle.gw_service.specs.Holding.{GoesTo, counting, hold, holding_manner, stage_of, waits_line}
use Rattle.gw_service.specs.declared.running.RunEnd.{RunEnd}
use Rattle.gw_service.specs.declared.running.Running.{Running}
use Rattle.gw_service.specs.Scheduled.{reporting_by}
use Rattle.gw_service.proofs.HoldingRunLemmas.{failed_is, goes_failed, goes_over_log}
use Rattle.gw_service.proofs.holding_run.HoldingRun.step_on_log.Goals as goal

pub returns-then-not-has_log_failed-clause-comes : goal.returns-then-not-has_log_failed-clause-comes
returns-then-not-has_log_failed-clause-comes g c = λ config is_config.
    let how = holding_manner g.K.Guard.Passes g.K.StateKeeper.conduct (reporting_by c.args.schedule.now) in
    let old = c.args.self.now in
    let now = c.advance-ended.new in
    let recorded = g.Q.Requests.recorded in
    let done = c.advance-ended.ensures.advances config is_config in
    let log = g.L.OctetSink.held in
    let calls = g.W.Wire.calls in
    let was = stage_of recorded config old.running (log c.args.log.now) (calls c.args.wire.now) in
    let mid = stage_of recorded done.0 now.self (log now.log) (calls now.wire) in
    let before = hold was old.waiting in
    let held = g.E.OctetSink.held in (
      done.0,
      done.1,
      done.2,
      subst (λ (n : ℕ). GoesTo how before c.advance-ended.result done.1 (hold (counting mid n mid.now.guard.withheld) old.waiting)) (sym c.len-self.ensures.count)
          (goes_over_log how c.args.self.now.running.state.left was mid old.waiting old.waiting c.advance-ended.result done.1 _ c.requires.none refl done.3),
      done.4,
    )

pub returns-then-not-hold-clause-comes : goal.returns-then-not-hold-clause-comes
returns-then-not-hold-clause-comes g c = λ config is_config.
    let how = holding_manner g.K.Guard.Passes g.K.StateKeeper.conduct (reporting_by c.args.schedule.now) in
    let old = c.args.self.now in
    let now = c.advance-ended.new in
    let recorded = g.Q.Requests.recorded in
    let done = c.advance-ended.ensures.advances config is_config in
    let log = g.L.OctetSink.held in
    let calls = g.W.Wire.calls in
    let was = stage_of recorded config old.running (log c.args.log.now) (calls c.args.wire.now) in
    let mid = stage_of recorded done.0 now.self (log now.log) (calls now.wire) in
    let before = hold was old.waiting in
    let held = g.E.OctetSink.held in
    let is = c.hold.new.self in
    let running = c.hold.ensures.still c.if-not-hold.true in
    let left = c.hold.ensures.left c.if-not-hold.true in
    let failed = failed_is c.advance-ended.result (sym c.has_log_failed.ensures ∙ c.if-not-has_log_failed.false) in (
      done.0,
      done.1,
      ap (λ (r : Running _ _ _). r.origin) running ∙ done.2,
      subst (λ (r : Running _ _ _). GoesTo how before (Err serving.Log) done.1 (hold (stage_of recorded done.0 r (log now.log) (calls now.wire)) is.waiting)) (sym running)
          (subst (λ (a : Result (Option RunEnd) ServeFault). GoesTo how before a done.1 (hold (counting mid (length is.waiting) mid.now.guard.withheld) is.waiting)) failed
          (goes_over_log how c.args.self.now.running.state.left was mid old.waiting is.waiting c.advance-ended.result done.1 _ c.requires.none left done.3)),
      λ never. subst (λ (l : List ℕ). Appends (held c.args.errors.now) (held c.hold.new.errors) l) (append-nil done.1)
          (appends_two (held c.args.errors.now) (held now.errors) (held c.hold.new.errors) done.1 [] (done.4 never)
          (subst (λ (b : Bool). Appends (held now.errors) (held c.hold.new.errors) (if b then waits_line else [])) c.if-not-hold.true
          (c.hold.ensures.said (c.advance-ended.ensures.lasts never)))),
    )

pub returns-clause-comes : goal.returns-clause-comes
returns-clause-comes g c = λ config is_config.
    let how = holding_manner g.K.Guard.Passes g.K.StateKeeper.conduct (reporting_by c.args.schedule.now) in
    let old = c.args.self.now in
    let now = c.advance-ended.new in
    let recorded = g.Q.Requests.recorded in
    let done = c.advance-ended.ensures.advances config is_config in
    let log = g.L.OctetSink.held in
    let calls = g.W.Wire.calls in
    let was = stage_of recorded config old.running (log c.args.log.now) (calls c.args.wire.now) in
    let mid = stage_of recorded done.0 now.self (log now.log) (calls now.wire) in
    let before = hold was old.waiting in
    let held = g.E.OctetSink.held in
    let is = c.hold.new.self in
    let running = c.hold.ensures.running c.if-not-hold.false in (
      done.0,
      done.1 ++ waits_line,
      ap (λ (r : Running _ _ _). r.origin) running ∙ done.2,
      subst (λ (r : Running _ _ _). GoesTo how before (Ok None) (done.1 ++ waits_line) (hold (stage_of recorded done.0 r (log now.log) (calls now.wire)) is.waiting))
          (sym running)
          (goes_failed how c.args.self.now.running.state.left was mid old.waiting is.waiting c.advance-ended.result done.1 _ c.requires.none
          (c.hold.ensures.waiting c.if-not-hold.false) (sym c.has_log_failed.ensures ∙ c.if-not-has_log_failed.false) done.3),
      λ never. appends_two (held c.args.errors.now) (held now.errors) (held c.hold.new.errors) done.1 waits_line (done.4 never)
          (subst (λ (b : Bool). Appends (held now.errors) (held c.hold.new.errors) (if b then waits_line else [])) c.if-not-hold.false
          (c.hold.ensures.said (c.advance-ended.ensures.lasts never))),
    )
