use Rattle.std.proofs.Common.{rules, ◌≡◌, ◌∙◌, sym, true, false}
use Rattle.gw_rules.specs.declared.format.Format.TheVariants.{Three}
use Rattle.gw_policy_drafts.proofs.BegunLaw.{begins}
use Rattle.gw_policy_drafts.specs.beginning.Site.{site_of}
use Rattle.gw_policy_drafts.specs.internal.Safe.{are_safe}
use Rattle.gw_policy_drafts.proofs.beginning.begun.is_begun.Goals as goal

pub returns : goal.returns
returns c = λ held.
    let s = site_of c.args.site.now in
    let config = c.args.config.now in
    let format : config.format ≡ Three = search rules in
    let announce : config.announce ≡ false = search rules in
    let ports : config.ports ≡ c.args.ports.now = search rules in
    let routes : config.routes ≡ c.args.routes.now = search rules in
    let safe : are_safe s.operators config.rules ≡ true = search rules in
    begins s config c.args.judged.now format announce (ports ∙ c.requires.ports) (routes ∙ c.requires.routes) safe c.requires.judged
    (sym c.do_hold.ensures ∙ held)
