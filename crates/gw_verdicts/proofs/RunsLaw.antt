-- A gateway does the same under rules that decide alike whatever lies in a shape of its configuration.
use Rattle.std.proofs.Common.{◌≡◌, ◌∙◌, true, not, List, [], ◌∷◌, ap, subst, sym, inl}
use Rattle.std.specs.List.{AllByRecursion}
use Rattle.gw_ask_sets.specs.shapes.Shape.{LiesInOne}
use Rattle.gw_ask_sets.specs.shapes.Shapes.{shapes}
use Rattle.gw_configuration.specs.Configuration.{Configuration}
use Rattle.gw_core.specs.Asks.{asks}
use Rattle.gw_core.specs.History.{next}
use Rattle.gw_core.specs.State.{State}
use Rattle.gw_core_laws.specs.Decisions.{DecideAlikeAlong, LogAlikeAlong}
use Rattle.gw_core_laws.proofs.DecisionLemmas.{same_decisions_run_alike, same_decisions_run_send_alike}
use Rattle.gw_core_laws.proofs.QuietRuleLemmas.{logged_all}
use Rattle.gw_policy_review.specs.comparison.Comparison.{IsComparisonText}
use Rattle.gw_policy_review.specs.declared.comparison.comparison.Compared.{Compared}
use Rattle.gw_policy_review.proofs.comparison_lemmas.LoggedLaw.{alike_is_logged}
use Rattle.gw_policy_review.proofs.comparison_lemmas.TextLaw.{alike_is_alike}
use Rattle.gw_rules.specs.Ask.{Ask}
use Rattle.gw_rules.specs.RuleList.{allows, has_no_quiet, is_logged}
use Rattle.gw_rules.specs.declared.rule.Rule.{Rule}
use Rattle.gw_rules.proofs.EachAsk.{each_weaker}
use Rattle.gw_script.specs.Event.{Event}
use Rattle.gw_verdicts.specs.Laws.{IsCarried, IsNumbered}
use Rattle.gw_verdicts.specs.Runs.{AlikeRunsAlike}
use Rattle.gw_verdicts.specs.States.{IsStateUnder}
use Rattle.gw_verdicts.proofs.ShapeLaw.{asks_lie_in_shapes}
use Rattle.gw_verdicts.proofs.StateLaw.{next_under}

alike_along : (c : Configuration) (others : List Rule) → IsNumbered c
    → ((ask : Ask) → LiesInOne (shapes c) ask → allows c.rules ask ≡ allows others ask)
    → (w : State) → IsStateUnder c w → (l : List Event) → AllByRecursion IsCarried l → DecideAlikeAlong others w l
unfolding DecideAlikeAlong
alike_along c others numbered so w under [] carried = tt
alike_along c others numbered so w under (e ∷ l) carried = (
  each_weaker (LiesInOne (shapes c)) (λ ask. allows w.rules ask ≡ allows others ask)
      (λ ask lies. ap (λ (rules : List Rule). allows rules ask) under.rules ∙ so ask lies) (asks w e)
      (asks_lie_in_shapes c numbered w under e carried.0),
  alike_along c others numbered so (next w e) (next_under c w e under) l carried.1,
)

-- where no rule is quiet, rules that decide alike log alike
logged_along : (c : Configuration) (others : List Rule) → has_no_quiet c.rules ≡ true → has_no_quiet others ≡ true
    → (w : State) → IsStateUnder c w → (l : List Event) → DecideAlikeAlong others w l → LogAlikeAlong others w l
unfolding DecideAlikeAlong LogAlikeAlong
logged_along c others none none_there w under [] alike = tt
logged_along c others none none_there w under (e ∷ l) alike =
    let none_here : has_no_quiet w.rules ≡ true = ap has_no_quiet under.rules ∙ none in (
      each_weaker (λ ask. allows w.rules ask ≡ allows others ask) (λ ask. is_logged w.rules ask ≡ is_logged others ask)
          (λ ask same. logged_all w.rules none_here ask ∙ (ap not same ∙ sym (logged_all others none_there ask))) (asks w e) alike.0,
      logged_along c others none none_there (next w e) (next_under c w e under) l alike.1,
    )

-- so do rules that log alike whatever lies in a shape
logged_by : (c : Configuration) (others : List Rule) → IsNumbered c
    → ((ask : Ask) → LiesInOne (shapes c) ask → is_logged c.rules ask ≡ is_logged others ask)
    → (w : State) → IsStateUnder c w → (l : List Event) → AllByRecursion IsCarried l → LogAlikeAlong others w l
unfolding LogAlikeAlong
logged_by c others numbered so w under [] carried = tt
logged_by c others numbered so w under (e ∷ l) carried = (
  each_weaker (LiesInOne (shapes c)) (λ ask. is_logged w.rules ask ≡ is_logged others ask)
      (λ ask lies. ap (λ (rules : List Rule). is_logged rules ask) under.rules ∙ so ask lies) (asks w e)
      (asks_lie_in_shapes c numbered w under e carried.0),
  logged_by c others numbered so (next w e) (next_under c w e under) l carried.1,
)

pub alike_runs_alike : AlikeRunsAlike
alike_runs_alike old new most made text written says numbered w under l carried =
    let alike = alike_along old new.rules numbered (λ ask lies. alike_is_alike old new most made text written says ask (inl lies)) w under l carried in (
      same_decisions_run_send_alike w new.rules l alike,
      λ none none_there. same_decisions_run_alike w new.rules l alike (logged_along old new.rules none none_there w under l alike),
      λ is. same_decisions_run_alike w new.rules l alike
          (logged_by old new.rules numbered
          (λ ask lies. alike_is_logged old new most text (subst (λ (m : Compared). IsComparisonText old new most m text) is written) ask (inl lies))
          w under l carried),
    )
