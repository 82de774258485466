use Rattle.std.proofs.Common.{◌∙◌, List, ap, refl, subst, sym}
use Rattle.gw_rules.specs.Rule.{matches}
use Rattle.gw_rules.specs.declared.rule.Rule.{Rule}
use Rattle.gw_ask_sets.specs.regions.Unmatched.{AreAllMatched, IsUnmatched}
use Rattle.gw_ask_sets.proofs.regions_lemmas.TidyLaw.{tidied_matches_the_same}
use Rattle.gw_ask_sets.proofs.assertions_lemmas.PassingLaw.{not_unlike, passed_apart, passed_opposed, passed_searched, reached, unlike_not}
use Rattle.gw_ask_sets.proofs.assertions.passing.take_rule.Goals as goal

pub returns-then-not-may_match-clause-nothing : goal.returns-then-not-may_match-clause-nothing
returns-then-not-may_match-clause-nothing c = λ e passed is.
    passed_apart c.args.quest.now.says c.args.quest.now.regions.now c.args.opposed.now.items passed c.args.rule.now (c.if-not-may_match.ensures refl) is

pub returns-then-is_unlike-clause-nothing : goal.returns-then-is_unlike-clause-nothing
returns-then-is_unlike-clause-nothing c = λ e passed is.
    passed_opposed c.args.quest.now.says c.args.quest.now.regions.now c.args.opposed.now.items passed c.push.new.self.items c.args.rule.now c.in_ok-tidy.tidy
    (λ ask. ap (λ (r : Rule). matches r ask) c.in_ok-tidy.ensures ∙ tidied_matches_the_same c.args.rule.now ask)
    (ap (λ (r : Rule). r.allow) c.in_ok-tidy.ensures)
    (unlike_not c.in_ok-tidy.tidy.allow c.args.quest.now.says (sym c.if-is_unlike.ensures)) c.in_ok-push.ensures.items is

pub returns-clause-nothing : goal.returns-clause-nothing
returns-clause-nothing c = λ e passed is.
    passed_searched c.args.quest.now.says c.args.quest.now.regions.now c.in_ok-regions.regions.items c.args.opposed.now.items passed c.args.rule.now
    c.in_ok-tidy.tidy (λ ask. ap (λ (r : Rule). matches r ask) c.in_ok-tidy.ensures ∙ tidied_matches_the_same c.args.rule.now ask)
    c.in_ok-regions.ensures (subst (λ (rules : List Rule). AreAllMatched c.in_ok-regions.regions.items rules) c.deref.ensures.value (c.search_unmatched.ensures.nothing e)) is

pub returns-clause-found : goal.returns-clause-found
returns-clause-found c = λ ask e passed is.
    reached c.args.quest.now.says c.args.quest.now.regions.now c.in_ok-regions.regions.items c.args.opposed.now.items passed c.args.rule.now
    c.in_ok-tidy.tidy ask (λ ask. ap (λ (r : Rule). matches r ask) c.in_ok-tidy.ensures ∙ tidied_matches_the_same c.args.rule.now ask)
    (ap (λ (r : Rule). r.allow) c.in_ok-tidy.ensures)
    (not_unlike c.in_ok-tidy.tidy.allow c.args.quest.now.says (sym c.if-is_unlike.ensures)) c.in_ok-regions.ensures
    (subst (λ (rules : List Rule). IsUnmatched c.in_ok-regions.regions.items rules ask) c.deref.ensures.value (c.search_unmatched.ensures.found ask e)) is
