use Rattle.std.proofs.Common.{◌∙◌, ◌++◌, ℕ, List, ap}
use Rattle.gw_audit.specs.Line.{line_text}
use Rattle.gw_verdicts.proofs.questions_lemmas.Ends.{own_words}
use Rattle.gw_verdicts.proofs.questions.step.words_of.Goals as goal

pub returns : goal.returns
returns c =
    let d = c.args.denial.now in
    let written = c.in_ok-line.ensures.ok ∙ ap (λ (t : List ℕ). t ++ line_text d) c.new-written.ensures.items in
    own_words d c.args.is_allowed c.deref.result.now c.without_end.result.now c.translate_line.new.text.items c.fits.ensures.shown
    (c.deref.ensures.value ∙ written) c.without_end.ensures c.in_ok-translate_line.ensures c.translating.ensures.each c.translating.ensures.words
