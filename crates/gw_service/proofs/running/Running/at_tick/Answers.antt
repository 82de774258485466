use Rattle.std.proofs.Common.{List, ℕ, subst}
use Rattle.std.specs.Io.KnownBytes.{Appends}
use Rattle.gw_service.specs.Metering.{lost_by, metered}
use Rattle.gw_service.specs.Scheduled.{reporting_by}
use Rattle.gw_service.specs.Stats.{all_stats}
use Rattle.gw_service.proofs.ChainLemmas.{same_note, same_text}
use Rattle.gw_service.proofs.running.Running.at_tick.Goals as goal

pub returns-clause-done : goal.returns-clause-done
returns-clause-done g c = λ config is_config.
    let old = c.args.self.now in
    let held = g.E.OctetSink.held in
    let new = c.look.new.self in
    let report = all_stats g.K.StateKeeper.conduct.unkept g.K.StateKeeper.conduct.more (reporting_by c.args.schedule.now) new.keeper new.counts new.announcing
    (lost_by (metered new.metrics)) new.gateway new.state.served new.state.tally in
    let looked = c.look.ensures.looked config is_config in (
      looked.0,
      looked.1,
      looked.2,
      record { keeper = c.keep_at_tick.new.self; ticks = c.keep_at_tick.ensures; looked = looked.3 },
      λ never. subst (λ (t : List ℕ). Appends (held c.args.errors.now) (held c.look.new.errors) t)
          (same_text config old.gateway c.keep_at_tick.new.self old.keeper (g.Q.Requests.recorded old.requests) old.counts old.announcing looked.1) (looked.4 never),
      same_note config old.gateway c.keep_at_tick.new.self old.keeper (g.Q.Requests.recorded old.requests) old.counts old.announcing g.L.Notes.Takes
          c.args.log.now c.look.new.log c.look.result report looked.1 looked.5,
    )
