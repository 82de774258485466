use Rattle.std.proofs.Common.{◌∙◌}
use Rattle.std.proofs.lemmas.Result.{IfOk-weaker}
use Rattle.gw_core.specs.Arrivals.{event_of}
use Rattle.gw_core.proofs.AskedLemmas.{asked_is}
use Rattle.gw_core.proofs.reporting.AllAsksReporting.outcome.Goals as goal

pub returns-clause-asked : goal.returns-clause-asked
returns-clause-asked c =
    IfOk-weaker c.outcome.result _ _ (λ asked is. is ∙ asked_is c.args.gateway.now (event_of c.args.arrival.now)) c.outcome.ensures.asked
