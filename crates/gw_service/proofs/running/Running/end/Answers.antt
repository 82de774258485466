use Rattle.std.proofs.Common.{◌∙◌, ◌++◌, sym}
use Rattle.gw_notices.specs.Notices.{stop_line}
use Rattle.gw_turns.specs.Serve.{scene}
use Rattle.gw_turns.specs.Stretch.{moment}
use Rattle.gw_service.specs.Chain.{manner, stage}
use Rattle.gw_service.specs.Metering.{lost_by, metered}
use Rattle.gw_service.specs.Scheduled.{reporting_by}
use Rattle.gw_service.specs.Conduct.{manner_by}
use Rattle.gw_service.specs.Stats.{end_stats}
use Rattle.gw_service.proofs.EndLemmas.{ends_else, ends_stopped}
use Rattle.gw_service.proofs.running.Running.end.Goals as goal

pub returns-then-is_stopped-clause-ends : goal.returns-then-is_stopped-clause-ends
returns-then-is_stopped-clause-ends g c = λ config log calls.
    let old = c.args.self.now in
    let how = reporting_by c.args.schedule.now in
    let manner = manner_by g.K.Guard.Passes g.K.StateKeeper.conduct how in
    let report = end_stats g.K.StateKeeper.conduct.unkept g.K.StateKeeper.conduct.more how in
    let last = stage config (moment (scene old.gateway log calls) old.keeper old.state.served old.state.tally)
    (g.Q.Requests.recorded old.requests) old.counts old.announcing old.said (metered old.metrics) in
    let kept = c.keep_last.new.self in
    let put = metered c.stop.new.self.metrics in (
      report kept old.counts old.announcing (lost_by put) old.gateway old.state.served old.state.tally
          ++ stop_line (g.K.StateKeeper.conduct.troubles kept).state,
      ends_stopped manner report how.start c.args.answer last kept c.stop.new.self.keeper
          (g.Q.Requests.recorded c.stop.new.self.requests) put (sym c.is_stopped.ensures ∙ c.if-is_stopped.true) c.stop.ensures.keeper
          c.keep_last.ensures c.stop.ensures.put c.stop.ensures.answers,
      λ never. c.stop.ensures.said never,
    )

pub returns-else-is_stopped-clause-ends : goal.returns-else-is_stopped-clause-ends
returns-else-is_stopped-clause-ends g c = λ config log calls.
    let old = c.args.self.now in
    let how = reporting_by c.args.schedule.now in
    let manner = manner_by g.K.Guard.Passes g.K.StateKeeper.conduct how in
    let report = end_stats g.K.StateKeeper.conduct.unkept g.K.StateKeeper.conduct.more how in
    let last = stage config (moment (scene old.gateway log calls) old.keeper old.state.served old.state.tally)
    (g.Q.Requests.recorded old.requests) old.counts old.announcing old.said (metered old.metrics) in
    let kept = c.keep_last.new.self in (
      report kept old.counts old.announcing (lost_by (metered old.metrics)) old.gateway old.state.served old.state.tally,
      ends_else manner report how.start c.args.answer last kept (sym c.is_stopped.ensures ∙ c.if-is_stopped.false) c.keep_last.ensures,
      λ never. c.report_end.ensures.said never,
    )
