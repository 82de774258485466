use Rattle.std.proofs.Common.{◌∙◌, sym, ap}
use Rattle.gw_verdicts.specs.questions.Answers.{refuses}
use Rattle.gw_verdicts.proofs.questions_lemmas.Sent.{refuses_by}
use Rattle.gw_verdicts.proofs.questions.answer.refuses.Goals as goal

pub returns : goal.returns
returns c = c.any_refuses.ensures ∙ sym (refuses_by c.batches.result.now) ∙ ap refuses c.batches.ensures.all
