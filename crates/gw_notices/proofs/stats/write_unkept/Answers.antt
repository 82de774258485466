use Rattle.std.proofs.Common.{ℕ, Bool, true, OnOk, subst, sym}
use Rattle.std.specs.Io.KnownBytes.{Appends}
use Rattle.gw_notices.specs.Stats.{unkept_text}
use Rattle.gw_notices.proofs.stats.write_unkept.Goals as goal

pub returns-then-is_kept-clause-ok : goal.returns-then-is_kept-clause-ok
returns-then-is_kept-clause-ok g c =
    let before = g.E.OctetSink.held c.args.errors.now in
    let after = g.E.OctetSink.held c.write_count_line.new.sink in
    subst (λ (is_kept : Bool). OnOk c.write_count_line.result (Appends before after (unkept_text is_kept c.args.unkept))) (sym c.if-is_kept.true)
    (subst (λ (unkept : ℕ). OnOk c.write_count_line.result (Appends before after (unkept_text true unkept))) c.from.ensures
    c.write_count_line.ensures.ok)
