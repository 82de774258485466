use Rattle.std.proofs.Common.{◌≡◌, ◌∙◌, ◌+◌, ◌<◌, ◌++◌, ◌∷◌, [], ℕ, List, Option, ap, refl, subst, sym, inl, inr}
use Rattle.std.specs.Io.KnownBytes.{Appends}
use Rattle.gw_script.specs.Event as event
use Rattle.gw_turns.specs.Serve.{scene, taken_event}
use Rattle.gw_turns.specs.Stretch.{CanCount, moment}
use Rattle.gw_turns.specs.declared.serving.ServeState.{ServeState}
use Rattle.gw_notices.specs.declared.troubles.Troubles.{Troubles}
use Rattle.gw_turns.specs.declared.stretch.StretchEnd.TheVariants as pause
use Rattle.gw_service.specs.Chain.{FailsToLast, IsStatusIn, WasLasting, edge, look_text, served, stage, standing, withheld}
use Rattle.gw_notices.specs.Notices.{metrics_notice, notice_of}
use Rattle.gw_wire.specs.declared.store.StoreFault.{StoreFault}
use Rattle.gw_service.specs.Metering.{failing_by, lost_by, metered}
use Rattle.gw_notices.specs.metrics.Writing.{Writing}
use Rattle.gw_service.specs.Metrics.{PutsDue}
use Rattle.gw_service.proofs.MeteringLemmas.{puts_metered}
use Rattle.gw_service.specs.Scheduled.{reporting_by}
use Rattle.gw_service.specs.Conduct.{manner_by}
use Rattle.gw_service.specs.Stats.{all_stats, due_stats}
use Rattle.gw_service.proofs.ChainLemmas.{advanced_by, advances_as, ends_as, more_at_tick, more_at_turns, more_faulty, more_withheld, went_kept}
use Rattle.gw_notices.proofs.AppendLemmas.{appends_nothing, appends_two}
use Rattle.gw_service.proofs.running.Running.advance.Goals as goal

pub returns-in-Ok-Turns-clause-advances : goal.returns-in-Ok-Turns-clause-advances
returns-in-Ok-Turns-clause-advances g c = λ config is_config.
    let end = ends_as g.K.Guard.Passes c.args.self.now.state.left
    (moment (scene c.args.self.now.gateway (g.L.OctetSink.held c.args.log.now) (g.W.Wire.calls c.args.wire.now)) c.args.self.now.keeper
    c.args.self.now.state.served c.args.self.now.state.tally)
    (moment (scene c.serve_to_tick.new.gateway (g.L.OctetSink.held c.serve_to_tick.new.log) (g.W.Wire.calls c.serve_to_tick.new.wire))
    c.serve_to_tick.new.guard c.serve_to_tick.new.self.served c.serve_to_tick.new.self.tally) c.serve_to_tick.result c.serve_to_tick.new.self.unwritten.items c.in-Ok-Turns.field-0
    pause.Turns c.in-Ok-Turns.is c.in-Ok-Turns.field-0-is c.serve_to_tick.ensures.end in (
      config,
      [],
      is_config,
      (served end.turns, record { went = end.went; config = refl; requests = refl; counts = refl; announcing = refl; said = refl; metrics = refl }, refl, inl end.ticks),
      λ never. appends_nothing (g.E.OctetSink.held c.args.errors.now),
    )

pub returns-in-Ok-Turns-clause-more : goal.returns-in-Ok-Turns-clause-more
returns-in-Ok-Turns-clause-more g c = λ some.
    let old = c.args.self.now in
    let new = c.serve_to_tick.new in
    let held = g.L.OctetSink.held in
    let calls = g.W.Wire.calls in
    more_at_turns g.K.Guard.Passes c.args.self.now.state.left
    (moment (scene old.gateway (held c.args.log.now) (calls c.args.wire.now)) old.keeper old.state.served old.state.tally)
    (moment (scene new.gateway (held new.log) (calls new.wire)) new.guard new.self.served new.self.tally)
    (ends_as g.K.Guard.Passes c.args.self.now.state.left
    (moment (scene c.args.self.now.gateway (g.L.OctetSink.held c.args.log.now) (g.W.Wire.calls c.args.wire.now)) c.args.self.now.keeper
    c.args.self.now.state.served c.args.self.now.state.tally)
    (moment (scene c.serve_to_tick.new.gateway (g.L.OctetSink.held c.serve_to_tick.new.log) (g.W.Wire.calls c.serve_to_tick.new.wire))
    c.serve_to_tick.new.guard c.serve_to_tick.new.self.served c.serve_to_tick.new.self.tally) c.serve_to_tick.result c.serve_to_tick.new.self.unwritten.items c.in-Ok-Turns.field-0
    pause.Turns c.in-Ok-Turns.is c.in-Ok-Turns.field-0-is c.serve_to_tick.ensures.end) some

pub returns-then-is_behind-clause-advances : goal.returns-then-is_behind-clause-advances
returns-then-is_behind-clause-advances g c = λ config is_config.
    let end = ends_as g.K.Guard.Passes c.args.self.now.state.left
    (moment (scene c.args.self.now.gateway (g.L.OctetSink.held c.args.log.now) (g.W.Wire.calls c.args.wire.now)) c.args.self.now.keeper
    c.args.self.now.state.served c.args.self.now.state.tally)
    (moment (scene c.serve_to_tick.new.gateway (g.L.OctetSink.held c.serve_to_tick.new.log) (g.W.Wire.calls c.serve_to_tick.new.wire))
    c.serve_to_tick.new.guard c.serve_to_tick.new.self.served c.serve_to_tick.new.self.tally) c.serve_to_tick.result c.serve_to_tick.new.self.unwritten.items c.in-Ok-Tick.field-0
    pause.Tick c.in-Ok-Tick.is c.in-Ok-Tick.field-0-is c.serve_to_tick.ensures.end in (
      config,
      [],
      is_config,
      (
        served (end.turns ++ taken_event event.Tick end.tries ∷ []),
        record { went = end.went; config = refl; requests = refl; counts = refl; announcing = refl; said = refl; metrics = refl },
        refl,
        inr (sym c.is_behind.ensures ∙ c.if-is_behind.true),
      ),
      λ never. appends_nothing (g.E.OctetSink.held c.args.errors.now),
    )

pub returns-then-is_behind-clause-more : goal.returns-then-is_behind-clause-more
returns-then-is_behind-clause-more g c = λ some.
    let old = c.args.self.now in
    let new = c.serve_to_tick.new in
    let held = g.L.OctetSink.held in
    let calls = g.W.Wire.calls in
    more_at_tick g.K.Guard.Passes c.args.self.now.state.left
    (moment (scene old.gateway (held c.args.log.now) (calls c.args.wire.now)) old.keeper old.state.served old.state.tally)
    (moment (scene new.gateway (held new.log) (calls new.wire)) new.guard new.self.served new.self.tally)
    (ends_as g.K.Guard.Passes c.args.self.now.state.left
    (moment (scene c.args.self.now.gateway (g.L.OctetSink.held c.args.log.now) (g.W.Wire.calls c.args.wire.now)) c.args.self.now.keeper
    c.args.self.now.state.served c.args.self.now.state.tally)
    (moment (scene c.serve_to_tick.new.gateway (g.L.OctetSink.held c.serve_to_tick.new.log) (g.W.Wire.calls c.serve_to_tick.new.wire))
    c.serve_to_tick.new.guard c.serve_to_tick.new.self.served c.serve_to_tick.new.self.tally) c.serve_to_tick.result c.serve_to_tick.new.self.unwritten.items c.in-Ok-Tick.field-0
    pause.Tick c.in-Ok-Tick.is c.in-Ok-Tick.field-0-is c.serve_to_tick.ensures.end)

pub returns-in_default-clause-more : goal.returns-in_default-clause-more
returns-in_default-clause-more g c = λ some.
    let old = c.args.self.now in
    let new = c.serve_to_tick.new in
    let held = g.L.OctetSink.held in
    let calls = g.W.Wire.calls in
    more_at_tick g.K.Guard.Passes c.args.self.now.state.left
    (moment (scene old.gateway (held c.args.log.now) (calls c.args.wire.now)) old.keeper old.state.served old.state.tally)
    (moment (scene new.gateway (held new.log) (calls new.wire)) new.guard new.self.served new.self.tally)
    (ends_as g.K.Guard.Passes c.args.self.now.state.left
    (moment (scene c.args.self.now.gateway (g.L.OctetSink.held c.args.log.now) (g.W.Wire.calls c.args.wire.now)) c.args.self.now.keeper
    c.args.self.now.state.served c.args.self.now.state.tally)
    (moment (scene c.serve_to_tick.new.gateway (g.L.OctetSink.held c.serve_to_tick.new.log) (g.W.Wire.calls c.serve_to_tick.new.wire))
    c.serve_to_tick.new.guard c.serve_to_tick.new.self.served c.serve_to_tick.new.self.tally) c.serve_to_tick.result c.serve_to_tick.new.self.unwritten.items c.in-Ok-Tick.field-0
    pause.Tick c.in-Ok-Tick.is c.in-Ok-Tick.field-0-is c.serve_to_tick.ensures.end)

pub returns-in-Ok-clause-advances : goal.returns-in-Ok-clause-advances
returns-in-Ok-clause-advances g c = λ config is_config.
    let end = ends_as g.K.Guard.Passes c.args.self.now.state.left
    (moment (scene c.args.self.now.gateway (g.L.OctetSink.held c.args.log.now) (g.W.Wire.calls c.args.wire.now)) c.args.self.now.keeper
    c.args.self.now.state.served c.args.self.now.state.tally)
    (moment (scene c.serve_to_tick.new.gateway (g.L.OctetSink.held c.serve_to_tick.new.log) (g.W.Wire.calls c.serve_to_tick.new.wire))
    c.serve_to_tick.new.guard c.serve_to_tick.new.self.served c.serve_to_tick.new.self.tally) c.serve_to_tick.result c.serve_to_tick.new.self.unwritten.items c.in-Ok-Tick.field-0
    pause.Tick c.in-Ok-Tick.is c.in-Ok-Tick.field-0-is c.serve_to_tick.ensures.end in
    let held = g.E.OctetSink.held in
    let old = c.args.self.now in
    let stretch = c.serve_to_tick.new in
    let done = c.at_tick-stops.ensures.done config is_config in
    let look = look_text config (standing stretch.gateway stretch.guard (g.Q.Requests.recorded old.requests) old.counts old.announcing) done.1 in
    let notice = notice_of old.said c.notice-self.result in
    let after = c.at_tick-stops.new.self in
    let metrics = metered old.metrics in
    let put = metered c.put_due.new.metrics in
    let report_of : Option (Writing _) → List ℕ = λ written. due_stats g.K.StateKeeper.conduct.unkept g.K.StateKeeper.conduct.more
    (reporting_by c.args.schedule.now) after.keeper after.counts c.announce.new.self (lost_by (metered written)) after.gateway
    after.state.served after.state.tally in
    let report = report_of old.metrics in
    let lines = metrics_notice (failing_by metrics) (failing_by put) in
    let turns = end.turns ++ taken_event event.Tick end.tries ∷ [] in
    let calls = g.W.Wire.calls stretch.wire in
    let noted = g.L.OctetSink.held c.at_tick-stops.new.log in
    let then = moment (scene stretch.gateway noted calls) stretch.guard stretch.self.served stretch.self.tally in
    let synced = g.L.OctetSink.held c.sync.new.self in
    let at = moment (scene old.gateway (g.L.OctetSink.held c.args.log.now) (g.W.Wire.calls c.args.wire.now)) old.keeper old.state.served
    old.state.tally in
    let went = went_kept g.K.Guard.Passes at turns stretch.gateway synced noted calls stretch.guard stretch.self.served stretch.self.tally
    (went_kept g.K.Guard.Passes at turns stretch.gateway (g.L.OctetSink.held stretch.log) synced calls stretch.guard stretch.self.served
    stretch.self.tally end.went c.sync.ensures.keeps)
    c.at_tick-stops.ensures.log in
    let by = manner_by g.K.Guard.Passes g.K.StateKeeper.conduct (reporting_by c.args.schedule.now) in
    let first = stage config at (g.Q.Requests.recorded old.requests) old.counts old.announcing old.said metrics in
    let text = ((look ++ notice) ++ report) ++ lines in
    let left = edge (g.W.Wire.behind c.announce.new.wire) (WasLasting g.L.Lasting.IsLasting g.L.OctetSink.held c.at_tick-stops.new.log)
    (FailsToLast g.L.Lasting.Syncs c.at_tick-stops.new.log) after.state.unwritten.items in (
      done.0,
      ((look ++ notice) ++ report) ++ lines,
      done.2,
      advances_as by c.args.self.now.state.left first text _ c.at_tick-stops.result left c.end_of.result c.end_of.ensures
          (advanced_by by first turns done.1 text _ c.at_tick-stops.result left done.5.0.1
          (c.announce.ensures.behind ∙ sym c.is_behind.ensures ∙ c.if-is_behind.false)
          (c.sync.new.self, c.in-Ok.ensures.lasts, c.at_tick-stops.ensures.log)
          (record {
            is = done.5.0.1;
            before = end.turns;
            tries = end.tries;
            tick = refl;
            then = then;
            went = went;
            ticks = end.ticks;
            due = after.announcing;
            done = done.3;
            status = subst (λ (m : Option (Writing _)). IsStatusIn (all_stats g.K.StateKeeper.conduct.unkept g.K.StateKeeper.conduct.more (reporting_by c.args.schedule.now)
                after.keeper after.counts after.announcing (lost_by (metered m)) after.gateway after.state.served after.state.tally) done.1)
                c.at_tick-stops.ensures.metrics done.5.1;
            announced = c.announce.ensures.announces;
            rest = record {
              log = refl;
              served = ap (λ (s : ServeState). s.served) c.at_tick-stops.ensures.state;
              tally = ap (λ (s : ServeState). s.tally) c.at_tick-stops.ensures.state;
            };
            said = c.notice-self.ensures.troubles;
            metrics = puts_metered g.M.Store.held old.metrics c.put_due.new.metrics c.args.schedule.now.start after.gateway after.state.served
                after.state.tally after.counts c.announce.new.self (g.K.StateKeeper.conduct.losses after.keeper) (g.K.StateKeeper.conduct.tries after.keeper)
                (g.K.StateKeeper.conduct.decisions after.keeper) c.measure-measured.result c.measure-measured.ensures
                (subst (λ (m : Option (Writing _)). PutsDue g.M.Store.held m c.measure-measured.result after.gateway
                (g.K.StateKeeper.conduct.decisions after.keeper) c.put_due.new.metrics) c.at_tick-stops.ensures.metrics c.put_due.ensures);
            lines = refl;
          })),
      λ never.
          let one = c.at_tick-stops.ensures.lasts never in
          let two = c.notice-self.ensures.lasts one in
          appends_two (held c.args.errors.now) (held c.report_due.new.errors) (held c.report_metrics.new.errors) ((look ++ notice) ++ report) lines
          (appends_two (held c.args.errors.now) (held c.notice-self.new.errors) (held c.report_due.new.errors) (look ++ notice) report
          (appends_two (held c.args.errors.now) (held c.at_tick-stops.new.errors) (held c.notice-self.new.errors) look notice (done.4 never)
          (subst (λ (f : Troubles). Appends (held c.at_tick-stops.new.errors) (held c.notice-self.new.errors) (notice_of f c.notice-self.result))
          c.at_tick-stops.ensures.said (c.notice-self.ensures.text one)))
          (subst (λ (m : Option (Writing _)). Appends (held c.notice-self.new.errors) (held c.report_due.new.errors) (report_of m))
          c.at_tick-stops.ensures.metrics (c.report_due.ensures.said two)))
          (subst (λ (is : Option StoreFault). Appends (held c.report_due.new.errors) (held c.report_metrics.new.errors)
          (metrics_notice (failing_by metrics) is)) c.failing_of.ensures
          (subst (λ (was : Option StoreFault). Appends (held c.report_due.new.errors) (held c.report_metrics.new.errors)
          (metrics_notice was c.failing_of.result)) (c.failing_of-was.ensures ∙ ap (λ (m : Option (Writing _)). failing_by (metered m)) c.at_tick-stops.ensures.metrics)
          (c.report_metrics.ensures.said (c.report_due.ensures.lasts two)))),
    )

pub returns-in-Ok-clause-rest : goal.returns-in-Ok-clause-rest
returns-in-Ok-clause-rest g c =
    subst (λ (s : ServeState). CanCount s.served s.tally (g.W.Wire.failure_count c.announce.new.wire) s.left) (sym c.at_tick-stops.ensures.state)
    (c.announce.ensures.counted _ _ _ c.serve_to_tick.ensures.rest)

pub returns-in-Ok-clause-left : goal.returns-in-Ok-clause-left
returns-in-Ok-clause-left g c =
    subst (λ (s : ServeState). s.served.turns + s.left ≡ c.args.self.now.state.served.turns + c.args.self.now.state.left)
    (sym c.at_tick-stops.ensures.state) c.serve_to_tick.ensures.left

pub returns-in-Ok-clause-more : goal.returns-in-Ok-clause-more
returns-in-Ok-clause-more g c = λ some.
    let old = c.args.self.now in
    let new = c.serve_to_tick.new in
    let held = g.L.OctetSink.held in
    let calls = g.W.Wire.calls in
    subst (λ (s : ServeState). old.state.served.turns < s.served.turns) (sym c.at_tick-stops.ensures.state)
    (more_at_tick g.K.Guard.Passes c.args.self.now.state.left
    (moment (scene old.gateway (held c.args.log.now) (calls c.args.wire.now)) old.keeper old.state.served old.state.tally)
    (moment (scene new.gateway (held new.log) (calls new.wire)) new.guard new.self.served new.self.tally)
    (ends_as g.K.Guard.Passes c.args.self.now.state.left
    (moment (scene c.args.self.now.gateway (g.L.OctetSink.held c.args.log.now) (g.W.Wire.calls c.args.wire.now)) c.args.self.now.keeper
    c.args.self.now.state.served c.args.self.now.state.tally)
    (moment (scene c.serve_to_tick.new.gateway (g.L.OctetSink.held c.serve_to_tick.new.log) (g.W.Wire.calls c.serve_to_tick.new.wire))
    c.serve_to_tick.new.guard c.serve_to_tick.new.self.served c.serve_to_tick.new.self.tally) c.serve_to_tick.result c.serve_to_tick.new.self.unwritten.items c.in-Ok-Tick.field-0
    pause.Tick c.in-Ok-Tick.is c.in-Ok-Tick.field-0-is c.serve_to_tick.ensures.end))

pub returns-in-Ok-Withheld-clause-advances : goal.returns-in-Ok-Withheld-clause-advances
returns-in-Ok-Withheld-clause-advances g c = λ config is_config.
    let end = ends_as g.K.Guard.Passes c.args.self.now.state.left
    (moment (scene c.args.self.now.gateway (g.L.OctetSink.held c.args.log.now) (g.W.Wire.calls c.args.wire.now)) c.args.self.now.keeper
    c.args.self.now.state.served c.args.self.now.state.tally)
    (moment (scene c.serve_to_tick.new.gateway (g.L.OctetSink.held c.serve_to_tick.new.log) (g.W.Wire.calls c.serve_to_tick.new.wire))
    c.serve_to_tick.new.guard c.serve_to_tick.new.self.served c.serve_to_tick.new.self.tally) c.serve_to_tick.result c.serve_to_tick.new.self.unwritten.items c.in-Ok-Withheld.field-0
    pause.Withheld c.in-Ok-Withheld.is c.in-Ok-Withheld.field-0-is c.serve_to_tick.ensures.end in
    let notice = notice_of c.args.self.now.said c.notice-self-in-Ok-Withheld.result in (
      config,
      notice,
      is_config,
      (
        withheld end.turns end.event notice,
        record {
          then = end.then;
          went = end.went;
          last = end.last;
          config = refl;
          requests = refl;
          counts = refl;
          announcing = refl;
          metrics = refl;
          said = c.notice-self-in-Ok-Withheld.ensures.troubles;
          lines = refl;
        },
        refl,
        tt,
      ),
      λ never. c.notice-self-in-Ok-Withheld.ensures.text never,
    )

pub returns-in-Ok-Withheld-clause-more : goal.returns-in-Ok-Withheld-clause-more
returns-in-Ok-Withheld-clause-more g c = λ some.
    let old = c.args.self.now in
    let new = c.serve_to_tick.new in
    let held = g.L.OctetSink.held in
    let calls = g.W.Wire.calls in
    more_withheld g.K.Guard.Passes c.args.self.now.state.left
    (moment (scene old.gateway (held c.args.log.now) (calls c.args.wire.now)) old.keeper old.state.served old.state.tally)
    (moment (scene new.gateway (held new.log) (calls new.wire)) new.guard new.self.served new.self.tally)
    (ends_as g.K.Guard.Passes c.args.self.now.state.left
    (moment (scene c.args.self.now.gateway (g.L.OctetSink.held c.args.log.now) (g.W.Wire.calls c.args.wire.now)) c.args.self.now.keeper
    c.args.self.now.state.served c.args.self.now.state.tally)
    (moment (scene c.serve_to_tick.new.gateway (g.L.OctetSink.held c.serve_to_tick.new.log) (g.W.Wire.calls c.serve_to_tick.new.wire))
    c.serve_to_tick.new.guard c.serve_to_tick.new.self.served c.serve_to_tick.new.self.tally) c.serve_to_tick.result c.serve_to_tick.new.self.unwritten.items c.in-Ok-Withheld.field-0
    pause.Withheld c.in-Ok-Withheld.is c.in-Ok-Withheld.field-0-is c.serve_to_tick.ensures.end)

pub returns-in-Err-clause-more : goal.returns-in-Err-clause-more
returns-in-Err-clause-more g c = λ some.
    let old = c.args.self.now in
    let new = c.serve_to_tick.new in
    let held = g.L.OctetSink.held in
    let calls = g.W.Wire.calls in
    more_faulty g.K.Guard.Passes c.args.self.now.state.left
    (moment (scene old.gateway (held c.args.log.now) (calls c.args.wire.now)) old.keeper old.state.served old.state.tally)
    (moment (scene new.gateway (held new.log) (calls new.wire)) new.guard new.self.served new.self.tally)
    c.in-Err.fault new.self.unwritten.items c.in-Err.ensures.end
