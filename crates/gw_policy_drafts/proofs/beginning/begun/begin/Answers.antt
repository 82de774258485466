use Rattle.std.proofs.Common.{◌≡◌, ◌∙◌, sym, None}
use Rattle.std.proofs.lemmas.Result.{IfOk-weaker}
use Rattle.gw_policy_drafts.specs.beginning.Flaws.{wrong_in}
use Rattle.gw_policy_drafts.specs.beginning.Site.{site_of}
use Rattle.gw_policy_drafts.proofs.beginning.begun.begin.Goals as goal

pub returns-clause-begins : goal.returns-clause-begins
returns-clause-begins c =
    let s = site_of c.in_ok-site.site in
    let none : wrong_in s ≡ None = sym c.wrong_in.ensures ∙ c.in-None.is in
    IfOk-weaker c.answer.result _ _ (λ text begins. (s, c.in_ok-site.ensures.says, none, begins)) (c.answer.ensures.text s c.written.ensures)
