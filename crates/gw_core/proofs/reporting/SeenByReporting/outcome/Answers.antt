use Rattle.std.proofs.Common.{◌∙◌, ap}
use Rattle.std.proofs.lemmas.Result.{IfOk-weaker}
use Rattle.gw_rules.specs.Asker.{verdicts_of}
use Rattle.gw_core.specs.Arrivals.{event_of}
use Rattle.gw_core.specs.Asked.{asked_of}
use Rattle.gw_core.specs.Asks.{asks}
use Rattle.gw_core.specs.Receive.{origin, receive}
use Rattle.gw_core.specs.Seen.{seen_of}
use Rattle.gw_core.proofs.AskedLemmas.{asked_is}
use Rattle.gw_core.proofs.reporting.SeenByReporting.outcome.Goals as goal

pub returns-clause-asked : goal.returns-clause-asked
returns-clause-asked g c =
    let w = c.args.gateway.now in
    let event = event_of c.args.arrival.now in
    IfOk-weaker c.outcome.result _ _ (λ asked is. is
    ∙ ap (λ asker. seen_of (g.G.Guard.keeps asker.guard) (asked_of (origin (receive w event)) (verdicts_of w.rules (asks w event)))) c.new-asker.ensures
    ∙ ap (seen_of (g.G.Guard.keeps c.args.self.now.guard.now)) (asked_is w event)) c.outcome.ensures.asked
