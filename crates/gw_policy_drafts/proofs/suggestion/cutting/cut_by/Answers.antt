use Rattle.std.proofs.Common.{◌≡◌, ◌∙◌, List, ap, arith, get_or, rules}
use Rattle.std.proofs.lemmas.List.{take_all}
use Rattle.gw_policy_drafts.specs.suggestion.Own.{Group, covered}
use Rattle.gw_policy_drafts.proofs.suggestion_lemmas.GroupLaw.{covered_step}
use Rattle.gw_policy_drafts.proofs.suggestion.cutting.cut_by.Goals as goal

pub loop-group-preserved : goal.loop-group-preserved
loop-group-preserved c = λ ask.
    let groups = c.args.groups.now in
    let index = c.loop-group.group-index in
    let item = c.group-item.result in
    let here : get_or groups index item ≡ item = search rules in
    covered_step groups index item c.loop-group.done.items c.add_cut.new.done.items ask c.loop-group-test.true (c.in_ok-add_cut.ensures ask) here
    (c.loop-group.invariant ask)

pub returns : goal.returns
returns c = λ ask.
    c.loop-group.invariant ask
    ∙ ap (λ (gs : List Group). covered gs ask)
    (take_all c.loop-group.group-index c.args.groups.now (omega (arith, c.loop-group-test.false)))
