use Rattle.std.proofs.Common.{◌≡◌, get_or, rules}
use Rattle.gw_policy_drafts.proofs.suggestion_lemmas.SuggestLaw.{rules_step}
use Rattle.gw_policy_drafts.proofs.suggestion.rules.rules_of.Goals as goal

pub loop-place-preserved : goal.loop-place-preserved
loop-place-preserved c =
    let groups = c.args.groups.now in
    let item = c.index-groups-place.result in
    let here : get_or groups c.loop-place.place item ≡ item = search rules in
    record {
      matching = λ ask.
          rules_step groups c.loop-place.place item c.loop-place.rules.items c.push_rule.new.rules.items ask c.loop-place-test.true
          (c.in_ok-push_rule.ensures.matching ask) here (c.loop-place.invariant.matching ask);
      allow = c.in_ok-push_rule.ensures.allow c.loop-place.invariant.allow;
    }
