use Rattle.std.proofs.Common.{ℕ, List, [], Option, if◌then◌else◌, OnOk, subst}
use Rattle.std.specs.Io.KnownBytes.{Appends}
use Rattle.gw_rules.specs.declared.rule.Rule.{Rule}
use Rattle.gw_notices.proofs.AppendLemmas.{two_writes}
use Rattle.gw_notices.specs.Watch.{counts_text, watch_text}
use Rattle.gw_notices.specs.declared.watch_report.WatchCounts.{WatchCounts}
use Rattle.gw_service.specs.Watch.{counted_of}
use Rattle.gw_service.proofs.watched.write_watcher.Goals as goal

pub returns-clause-ok : goal.returns-clause-ok
returns-clause-ok g c =
    let held = g.E.OctetSink.held in
    let first = held c.args.errors.now in
    let middle = held c.write_watched.new.errors in
    let last = held c.write_counts_if.new.errors in
    let watcher = c.args.watcher.now in
    let is_asked = c.args.rules in
    two_writes c.write_counts_if.result first middle last (watch_text (counted_of watcher))
    (if is_asked then counts_text c.args.gateway.now.rules watcher.counts else [])
    (subst (λ (watched : WatchCounts). Appends first middle (watch_text watched)) c.counted_of.ensures c.in_ok-write_watched.ensures.ok)
    (subst (λ (rules : List Rule). OnOk c.write_counts_if.result (Appends middle last (if is_asked then counts_text rules watcher.counts else [])))
    c.rules.ensures
    (subst (λ (counts : Option (List ℕ)). OnOk c.write_counts_if.result (Appends middle last
    (if is_asked then counts_text c.rules.result.now counts else [])))
    c.counts.ensures c.write_counts_if.ensures.ok))
