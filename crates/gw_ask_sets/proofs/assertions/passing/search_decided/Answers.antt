use Rattle.std.proofs.Common.{◌≡◌, ◌∙◌, List, Ok, ap, subst, sym, take, true}
use Rattle.gw_rules.specs.Ask.{Ask}
use Rattle.gw_rules.specs.RuleList.{allows}
use Rattle.gw_ask_sets.specs.assertions.internal.Passing.{IsPassed, IsVain}
use Rattle.gw_ask_sets.specs.regions.Regions.{Region, lies_in_one}
use Rattle.gw_ask_sets.proofs.assertions_lemmas.PassingLaw.{reached_at, vain_at}
use Rattle.gw_ask_sets.proofs.assertions.passing.search_decided.Goals as goal

pub returns-in-Found-clause-there : goal.returns-in-Found-clause-there
returns-in-Found-clause-there c = λ ask e.
    let same : c.in-Found.ask ≡ ask = cc in
    let passed = take c.loop-rule.rule-index c.args.rules.now in
    let was = subst (λ (rs : List Region). IsPassed c.args.says rs c.loop-rule.opposed.items passed) (sym c.deref.ensures.value) c.loop-rule.invariant in
    let is = c.take_rule.ensures.found c.in-Found.ask (c.in_ok-found.was ∙ ap Ok c.in-Found.is) passed was in
    subst (λ (a : Ask). lies_in_one c.args.regions.items a ≡ true) same
    (ap (λ (rs : List Region). lies_in_one rs c.in-Found.ask) (sym c.deref.ensures.value) ∙ is.there)

pub returns-in-Found-clause-decided : goal.returns-in-Found-clause-decided
returns-in-Found-clause-decided c = λ ask e.
    let same : c.in-Found.ask ≡ ask = cc in
    let passed = take c.loop-rule.rule-index c.args.rules.now in
    let was = subst (λ (rs : List Region). IsPassed c.args.says rs c.loop-rule.opposed.items passed) (sym c.deref.ensures.value) c.loop-rule.invariant in
    let is = c.take_rule.ensures.found c.in-Found.ask (c.in_ok-found.was ∙ ap Ok c.in-Found.is) passed was in
    subst (λ (a : Ask). allows c.args.rules.now a ≡ c.args.says) same
    (reached_at c.args.says c.deref.result.now c.args.rules.now c.loop-rule.rule-index c.rule-item.result c.in-Found.ask c.loop-rule-test.true c.rule-item.is is)

pub returns-in-Unknown-clause-unknown : goal.returns-in-Unknown-clause-unknown
returns-in-Unknown-clause-unknown c = λ e.
    let passed = take c.loop-rule.rule-index c.args.rules.now in
    let was = subst (λ (rs : List Region). IsPassed c.args.says rs c.loop-rule.opposed.items passed) (sym c.deref.ensures.value) c.loop-rule.invariant in
    vain_at c.args.regions.items c.args.rules.now c.loop-rule.rule-index c.args.steps
    (subst (λ (rs : List Region). IsVain rs passed c.args.steps) c.deref.ensures.value
    (c.take_rule.ensures.unknown (c.in_ok-found.was ∙ ap Ok c.in-Unknown.is) passed was))
