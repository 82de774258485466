use Rattle.std.proofs.Common.{◌∙◌, sym, ap}
use Rattle.gw_verdicts.specs.questions.Calls.{accepts}
use Rattle.gw_verdicts.proofs.questions_lemmas.Sent.{accepts_by}
use Rattle.gw_verdicts.proofs.questions.call.accepts.Goals as goal

pub returns : goal.returns
returns c =
    c.any_accepts.ensures ∙ sym (accepts_by c.batches.result.now) ∙ ap accepts c.batches.ensures.all
