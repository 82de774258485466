use Rattle.std.proofs.Common.{◌∙◌, ap, sym, Option, Some}
use Rattle.gw_core.specs.Asked.{asked_of}
use Rattle.gw_core.specs.Receive.{Origin}
use Rattle.gw_core.specs.Seen.{seen_of}
use Rattle.gw_core.proofs.SeenLemmas.{seen_from}
use Rattle.gw_core.proofs.seen.SeenAsks.of.Goals as goal

pub returns-in-Some : goal.returns-in-Some
returns-in-Some c = λ keeps verdicts decided whole.
    seen_from keeps c.whom.result verdicts c.args.deciders c.args.kept decided whole
    ∙ ap (λ (from : Option Origin). seen_of keeps (asked_of from verdicts)) (ap Some c.whom.ensures ∙ c.in-Some.ensures)
