use Rattle.std.proofs.Common.{ℕ, Option, Some, OnOk, ap, subst, sym, ◌∙◌}
use Rattle.std.specs.Io.KnownBytes.{Appends}
use Rattle.gw_notices.specs.Stats.{lost_metrics_text}
use Rattle.gw_notices.proofs.stats.write_lost_metrics.Goals as goal

pub returns-in-Some-clause-ok : goal.returns-in-Some-clause-ok
returns-in-Some-clause-ok g c =
    subst (λ (lost : Option ℕ). OnOk c.write_count_line.result (Appends (g.E.OctetSink.held c.args.errors.now)
    (g.E.OctetSink.held c.write_count_line.new.sink) (lost_metrics_text lost))) (ap Some c.from.ensures ∙ sym c.in-Some.is)
    c.write_count_line.ensures.ok
