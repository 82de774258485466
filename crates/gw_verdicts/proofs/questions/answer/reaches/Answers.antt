use Rattle.std.proofs.Common.{◌∙◌, sym, ap}
use Rattle.gw_verdicts.specs.questions.Answers.{reaches}
use Rattle.gw_verdicts.proofs.questions_lemmas.Sent.{reaches_by}
use Rattle.gw_verdicts.proofs.questions.answer.reaches.Goals as goal

pub returns : goal.returns
returns c =
    c.any_reaches.ensures ∙ sym (reaches_by c.args.station.now c.batches.result.now)
    ∙ ap (reaches c.args.station.now) c.batches.ensures.all
