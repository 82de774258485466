use Rattle.std.proofs.Common.{◌∙◌, ◌++◌, sym}
use Rattle.gw_notices.proofs.AppendLemmas.{appends_two}
use Rattle.gw_service.specs.Holding.{hold, holding_manner, stage_of}
use Rattle.gw_service.specs.Scheduled.{reporting_by}
use Rattle.gw_service.proofs.HoldingRunLemmas.{goes_on_by, goes_written}
use Rattle.gw_service.proofs.holding_run.HoldingRun.step.Goals as goal

pub returns-then-ticks-counts-clause-comes : goal.returns-then-ticks-counts-clause-comes
returns-then-ticks-counts-clause-comes g c = λ config is_config.
    let how = holding_manner g.K.Guard.Passes g.K.StateKeeper.conduct (reporting_by c.args.schedule.now) in
    let old = c.args.self.now in
    let recorded = g.Q.Requests.recorded in
    let log = g.L.OctetSink.held in
    let calls = g.W.Wire.calls in
    let now = c.step_on_waiting-ended.new in
    let done = c.step_on_waiting-ended.ensures.comes config is_config (log c.args.log.now) in
    let written = c.write.ensures.writes done.0 (calls now.wire) in
    let before = hold (stage_of recorded config old.running (log c.args.log.now) (calls c.args.wire.now)) old.waiting in
    let between = hold (stage_of recorded done.0 now.self.running (log c.args.log.now) (calls now.wire)) now.self.waiting in
    let held = g.E.OctetSink.held in (
      done.0,
      done.1 ++ written.0,
      c.write.ensures.origin ∙ done.2,
      goes_written how before between _ done.1 written.0
          (goes_on_by how before between c.step_on_waiting-ended.result done.1 (sym c.goes_on.ensures ∙ c.if-goes_on.true) done.3) written.1,
      λ never. appends_two (held c.args.errors.now) (held now.errors) (held c.write.new.errors) done.1 written.0 (done.4 never)
          (written.2 (c.step_on_waiting-ended.ensures.lasts never)),
    )
