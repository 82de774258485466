use Rattle.std.proofs.Common.{◌∙◌, ap}
use Rattle.gw_core.specs.Asked.{refused_of}
use Rattle.gw_core.proofs.AskedLemmas.{refused_are}
use Rattle.gw_core.proofs.asked.SieveReporter.into_report.Goals as goal

pub returns-clause-refusals : goal.returns-clause-refusals
returns-clause-refusals g c = λ rules asks kept.
    c.into_sieved-refusals.ensures.refusals ∙ ap refused_of kept ∙ refused_are rules asks
