use Rattle.std.proofs.Common.{List, subst}
use Rattle.gw_rules.specs.Ask.{Ask}
use Rattle.gw_policy_drafts.specs.suggestion.Given.{taken}
use Rattle.gw_policy_drafts.specs.suggestion.Suggestion.{IsSuggestion}
use Rattle.gw_policy_drafts.proofs.suggestion_lemmas.SuggestLaw.{wants_more}
use Rattle.gw_policy_drafts.proofs.suggestion.suggestion.rules_in.Goals as goal

pub returns-then-manner : goal.returns-then-manner
returns-then-manner c =
    let manner = c.args.manner in
    let made = c.in_ok-made.made.rules.items in
    wants_more manner c.args.asks.now c.in_ok-more.more made c.if-manner.true c.in_ok-more.ensures
    (subst (λ (asks : List Ask). IsSuggestion manner.keeps_services (taken asks) made) c.as_slice.ensures c.in_ok-made.ensures)
