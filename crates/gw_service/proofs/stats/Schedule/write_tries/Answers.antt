use Rattle.std.proofs.Common.{ℕ, ◌++◌, Option, subst}
use Rattle.std.specs.Io.KnownBytes.{Appends}
use Rattle.gw_notices.specs.Stats.{lost_metrics_text, put_off_text, reloads_text, unkept_text}
use Rattle.gw_notices.proofs.AppendLemmas.{two_writes}
use Rattle.gw_turns.specs.Reports.{announcing_text}
use Rattle.gw_service.specs.Metering.{lost_by, metered}
use Rattle.gw_service.proofs.stats.Schedule.write_tries.Goals as goal

pub returns-clause-ok : goal.returns-clause-ok
returns-clause-ok g c =
    let held = g.E.OctetSink.held in
    let keeps = c.args.self.now.keeps in
    let running = c.args.running.now in
    let before = held c.args.errors.now in
    let kept = held c.write_unkept.new.errors in
    let reloaded = held c.write_reloads.new.errors in
    let lost = held c.write_lost_metrics.new.errors in
    let announced = held c.write_announcing.new.sink in
    let put_off = held c.write_put_off.new.errors in
    let after = held c.write_more.new.errors in
    let done = c.write_more.result in
    let metrics = lost_metrics_text (lost_by (metered running.metrics)) in
    let more = g.K.StateKeeper.conduct.more running.keeper c.args.self.now.rules running.gateway in
    let of_put_off = put_off_text running.announcing.put_off ++ more in
    let of_announcing = announcing_text running.announcing ++ of_put_off in
    let of_lost = metrics ++ of_announcing in
    let of_reloads = reloads_text c.args.self.now.reloads running.counts ++ of_lost in
    let said = subst (λ (n : ℕ). Appends before kept (unkept_text keeps n)) c.unkept.ensures c.in_ok-write_unkept.ensures.ok in
    let of_metrics = subst (λ (n : Option ℕ). Appends reloaded lost (lost_metrics_text n)) c.lost_of.ensures
    c.in_ok-write_lost_metrics.ensures.ok in
    two_writes done before kept after (unkept_text keeps (g.K.StateKeeper.conduct.unkept running.keeper)) of_reloads said
    (two_writes done kept reloaded after (reloads_text c.args.self.now.reloads running.counts) of_lost c.in_ok-write_reloads.ensures.ok
    (two_writes done reloaded lost after metrics of_announcing of_metrics
    (two_writes done lost announced after (announcing_text running.announcing) of_put_off c.in_ok-write_announcing.ensures.ok
    (two_writes done announced put_off after (put_off_text running.announcing.put_off) more c.in_ok-write_put_off.ensures.ok
    c.write_more.ensures.ok))))
