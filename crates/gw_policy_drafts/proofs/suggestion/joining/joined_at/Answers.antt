use Rattle.std.proofs.Common.{◌≡◌, ◌∙◌, ◌||◌, ap, get_or, rules, sym}
use Rattle.std.proofs.lemmas.List.{get_or_default}
use Rattle.gw_rules.specs.Ask.{Ask}
use Rattle.gw_policy_drafts.specs.suggestion.Own.{Group, covers}
use Rattle.gw_policy_drafts.proofs.suggestion_lemmas.GroupLaw.{some_weaker}
use Rattle.gw_policy_drafts.proofs.suggestion.joining.joined_at.Goals as goal

pub returns : goal.returns
returns c =
    let done = c.args.done.now in
    let place = c.args.place in
    let group = c.args.group.now in
    let item = c.index-done-place.result in
    let here : get_or done place item ≡ item = search rules in
    some_weaker (λ (both : Group). (ask : Ask) → covers both ask ≡ (covers item ask || covers group ask))
    (λ (both : Group). (ask : Ask) → covers both ask ≡ (covers (get_or done place both) ask || covers group ask)) c.in_ok-made.made
    (λ both is ask. is ask ∙ ap (λ (g : Group). covers g ask || covers group ask) (sym here ∙ get_or_default done place item both c.requires))
    c.in_ok-made.ensures
