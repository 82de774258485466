use Rattle.std.proofs.Common.{◌≡◌, ◌∙◌, [], get_or, rules}
use Rattle.gw_policy_drafts.proofs.suggestion_lemmas.FrontLaw.{each_step}
use Rattle.gw_policy_drafts.proofs.suggestion.front.are_all_empty.Goals as goal

pub loop-text-preserved : goal.loop-text-preserved
loop-text-preserved c =
    let texts = c.args.texts.now in
    let index = c.loop-text.text-index in
    let item = c.text-item.result in
    let here : get_or texts index item ≡ item = search rules in
    each_step texts index item [] c.loop-text-test.true (here ∙ c.is_empty.ensures c.if-not-is_empty.false) c.loop-text.invariant
