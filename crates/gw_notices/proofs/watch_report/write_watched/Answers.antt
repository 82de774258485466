use Rattle.std.proofs.Common.{ℕ, OnOk, subst}
use Rattle.std.specs.Io.KnownBytes.{Appends}
use Rattle.gw_notices.specs.Watch.{logs_text, unseen_text}
use Rattle.gw_notices.proofs.AppendLemmas.{two_writes}
use Rattle.gw_notices.proofs.watch_report.write_watched.Goals as goal

pub returns-clause-ok : goal.returns-clause-ok
returns-clause-ok g c =
    let r = c.write_count_line.result in
    let middle = g.E.OctetSink.held c.write_logs.new.errors in
    let after = g.E.OctetSink.held c.write_count_line.new.sink in
    two_writes r (g.E.OctetSink.held c.args.errors.now) middle after (logs_text c.args.watched) (unseen_text c.args.watched.unseen)
    c.in_ok-write_logs.ensures.ok
    (subst (λ (n : ℕ). OnOk r (Appends middle after (unseen_text n))) c.from.ensures c.write_count_line.ensures.ok)
