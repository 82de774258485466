use Rattle.std.proofs.Common.{◌∙◌, ◌++◌, List, ℕ, ap, length, sym, true≢false}
use Rattle.std.specs.Prelude.{◌==◌}
use Rattle.gw_audit.specs.declared.denial.Denial.{Denial}
use Rattle.gw_turns.specs.Serve.{lines_of}
use Rattle.gw_turns.proofs.ServeLemmas.{logged_as}
use Rattle.gw_turns.proofs.serving.log_denials.Goals as goal

pub returns-clause-end : goal.returns-clause-end
returns-clause-end g c =
    let held = g.L.OctetSink.held in
    let parts = c.write_out.ensures.parts in
    logged_as c.args.denials.now (held c.args.log.now) (held c.write_out.new.log) _ parts.0 c.write_out.new.text.items c.write_out.result
    (λ none. true≢false (sym (ap (λ (l : List Denial). length l == 0) none) ∙ sym c.is_empty.ensures ∙ c.if-is_empty.false))
    (c.in-Ok.ensures ∙ ap (λ (l : List ℕ). l ++ lines_of c.args.denials.now) c.clear.ensures.items)
    parts.1 c.write_out.ensures.all parts.2
