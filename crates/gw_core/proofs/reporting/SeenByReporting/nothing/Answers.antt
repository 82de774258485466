use Rattle.std.proofs.Common.{◌∙◌, ap, sym}
use Rattle.gw_core.specs.Seen.{seen_of}
use Rattle.gw_core.proofs.AskedLemmas.{asked_at-tick}
use Rattle.gw_core.proofs.reporting.SeenByReporting.nothing.Goals as goal

pub returns : goal.returns
returns g c = λ w. c.none.ensures ∙ ap (seen_of (g.G.Guard.keeps c.args.self.now.guard.now)) (sym (asked_at-tick w))
