use Rattle.std.proofs.Common.{◌∙◌, List, Ok, ap, subst, sym}
use Rattle.gw_rules.specs.RuleList.{allows, first}
use Rattle.gw_rules.specs.declared.rule.Rule.{Rule}
use Rattle.gw_ask_sets.specs.assertions.internal.Passing.{IsVain}
use Rattle.gw_ask_sets.specs.regions.Regions.{Region, lies_in_one}
use Rattle.gw_ask_sets.proofs.assertions_lemmas.JudgingLaw.{is_broken_of, is_empty_of, is_held_of, is_unfinished_of}
use Rattle.gw_ask_sets.proofs.assertions.judging.judge_one.Goals as goal

pub returns-in-None : goal.returns-in-None
returns-in-None c =
    is_empty_of c.args.config.now c.args.assertion.now c.args.asserted.now c.in_ok-regions.regions.items c.requires c.in_ok-regions.ensures
    (λ ask. ap (λ (rs : List Region). lies_in_one rs ask) (sym c.deref.ensures.value) ∙ c.any_ask.ensures.none c.in-None.is ask)

pub returns-in-Nothing : goal.returns-in-Nothing
returns-in-Nothing c =
    is_held_of c.args.config.now c.args.assertion.now c.args.asserted.now c.in_ok-regions.regions.items c.in-Some.field-0 c.requires c.in_ok-regions.ensures
    (ap (λ (rs : List Region). lies_in_one rs c.in-Some.field-0) (sym c.deref.ensures.value) ∙ c.in-Some.ensures.some)
    (λ ask lies. ap (λ (rs : List Rule). allows rs ask) (sym (c.rules-2.ensures.rules ∙ c.rules.ensures.rules))
    ∙ c.search_decided.ensures.nothing (c.in_ok-search_decided.was ∙ ap Ok c.in-Nothing.is) ask lies)

pub returns-in-Unknown : goal.returns-in-Unknown
returns-in-Unknown c =
    is_unfinished_of c.args.config.now c.args.assertion.now c.args.asserted.now c.in_ok-regions.regions.items c.args.steps c.requires c.in_ok-regions.ensures
    (subst (λ (rs : List Rule). IsVain c.in_ok-regions.regions.items rs c.args.steps) (c.rules-2.ensures.rules ∙ c.rules.ensures.rules)
    (c.search_decided.ensures.unknown (c.in_ok-search_decided.was ∙ ap Ok c.in-Unknown.is)))

pub returns-in-Found : goal.returns-in-Found
returns-in-Found c =
    is_broken_of c.args.config.now c.args.assertion.now c.args.asserted.now c.in_ok-regions.regions.items c.in-Found.ask c.first-by.result c.requires
    c.in_ok-regions.ensures (c.search_decided.ensures.there c.in-Found.ask (c.in_ok-search_decided.was ∙ ap Ok c.in-Found.is))
    (ap (λ (rs : List Rule). allows rs c.in-Found.ask) (sym (c.rules-2.ensures.rules ∙ c.rules.ensures.rules))
    ∙ c.search_decided.ensures.decided c.in-Found.ask (c.in_ok-search_decided.was ∙ ap Ok c.in-Found.is))
    (sym (c.first-by.ensures.first ∙ ap (λ (rs : List Rule). first rs c.in-Found.ask) c.rules-in-Found.ensures.rules))
