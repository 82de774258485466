use Rattle.std.proofs.Common.{sym, ◌∙◌, ap}
use Rattle.gw_rules.specs.declared.rule.Rule.{Rule}
use Rattle.gw_rules.specs.Rule.{matches}
use Rattle.gw_rules.proofs.Places.{found, next}
use Rattle.gw_rules.proofs.rule_list.place_of.Goals as goal

pub returns-then-matches_by-clause-place : goal.returns-then-matches_by-clause-place
returns-then-matches_by-clause-place c =
    let ask = c.args.ask.now in
    let rule = c.index-rules-place.result in
    found (λ rule. matches rule ask) c.args.rules.now c.loop-place.place rule c.loop-place.invariant c.loop-place-test.true
    (ap (λ (r : Rule). matches r ask) (sym c.index-rules-place.is) ∙ sym c.matches_by.ensures ∙ c.if-matches_by.true)

pub loop-place-preserved : goal.loop-place-preserved
loop-place-preserved c =
    let ask = c.args.ask.now in
    let rule = c.index-rules-place.result in
    next (λ rule. matches rule ask) c.args.rules.now c.loop-place.place rule c.loop-place.invariant c.loop-place-test.true
    (ap (λ (r : Rule). matches r ask) (sym c.index-rules-place.is) ∙ sym c.matches_by.ensures ∙ c.if-matches_by.false)
