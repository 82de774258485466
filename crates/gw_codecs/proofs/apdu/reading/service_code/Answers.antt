use Rattle.std.proofs.Common.{sym, ◌∙◌}
use Rattle.gw_codecs.proofs.apdu_lemmas.Headers.{code_some, code_lacks}
use Rattle.gw_codecs.proofs.apdu.reading.service_code.Goals as goal

pub returns-clause-some : goal.returns-clause-some
returns-clause-some c = λ f is. c.code.ensures ∙ code_some c.args.octets.now f is

pub returns-clause-none : goal.returns-clause-none
returns-clause-none c =
    let lacks = code_lacks c.args.octets.now in
    (λ e. lacks.0 (sym c.code.ensures ∙ e), λ none. c.code.ensures ∙ lacks.1 none)
