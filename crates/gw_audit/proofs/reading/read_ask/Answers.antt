use Rattle.std.proofs.Common.{sym, ◌∙◌}
use Rattle.gw_audit.specs.Entry.{ShowsAsk}
use Rattle.gw_audit.proofs.TranslatingLemmas.{is_found, told_again, told_takes}
use Rattle.gw_audit.proofs.reading.read_ask.Goals as goal

pub returns-clause-found : goal.returns-clause-found
returns-clause-found c =
    let line = c.args.line.now in
    is_found c.ask_in_line.result (ShowsAsk line) (λ s e. told_takes line s (sym c.ask_in_line.ensures ∙ e))

pub returns-clause-only : goal.returns-clause-only
returns-clause-only c = λ s translates. c.ask_in_line.ensures ∙ told_again c.args.line.now s translates
