use Rattle.std.proofs.Common.{◌≡◌, ◌∙◌, ◌||◌, List, ap, get_or}
use Rattle.gw_rules.specs.Ask.{Ask}
use Rattle.gw_policy_drafts.specs.suggestion.Own.{Group, covers}
use Rattle.gw_policy_drafts.proofs.suggestion_lemmas.GroupLaw.{any_set, some_of}
use Rattle.gw_policy_drafts.proofs.suggestion.joining.join_at.Goals as goal

pub returns : goal.returns
returns c = λ ask.
    let group = c.args.group.now in
    let both = c.in-Some.both in
    let is = some_of (λ (made : Group). (a : Ask) → covers made a ≡ (covers (get_or c.as_slice.result.now c.args.place made) a || covers group a))
    c.in_ok-both.field-0 both c.in-Some.is c.in_ok-both.ensures in
    any_set (λ (g : Group). covers g ask) c.args.done.now.items c.args.place both both (covers group ask) c.requires
    (is ask ∙ ap (λ (gs : List Group). covers (get_or gs c.args.place both) ask || covers group ask) c.as_slice.ensures.value)
