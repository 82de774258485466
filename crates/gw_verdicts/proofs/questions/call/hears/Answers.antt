use Rattle.std.proofs.Common.{◌∙◌, sym, ap}
use Rattle.gw_verdicts.specs.questions.Calls.{hears}
use Rattle.gw_verdicts.proofs.questions_lemmas.Sent.{hears_by}
use Rattle.gw_verdicts.proofs.questions.call.hears.Goals as goal

pub returns : goal.returns
returns c =
    c.any_hears.ensures ∙ sym (hears_by c.args.port c.batches.result.now) ∙ ap (hears c.args.port) c.batches.ensures.all
