-- What is found of an assertion is true of every event of a gateway of its configuration, whatever came before.
use Rattle.std.specs.Prelude.{◌≡◌, ℕ, true, false}
use Rattle.gw_ask_sets.specs.assertions.Asserted.{LiesInAsserted}
use Rattle.gw_ask_sets.specs.assertions.Judging.{IsJudged}
use Rattle.gw_ask_sets.specs.declared.assertions.judging.Judged.TheVariants.{Empty, Holds}
use Rattle.gw_configuration.specs.Assertion.{is_meant}
use Rattle.gw_configuration.specs.Configuration.{Configuration}
use Rattle.gw_configuration.specs.declared.assertion.Assertion.{Assertion}
use Rattle.gw_rules.specs.RuleList.{allows}
use Rattle.gw_verdicts.specs.Laws.{OfEachAsk}

-- Each ask is one that assertions are judged by.
abbrev pub AsksAreJudged : Type 0
AsksAreJudged = (c : Configuration) → OfEachAsk c (λ ask. LiesInAsserted c ask)

-- If an assertion holds, each ask that it means is allowed or denied as its verdict says.
abbrev pub HoldingIsTrue : Type 0
HoldingIsTrue = (c : Configuration) (a : Assertion) (steps : ℕ) → IsJudged c steps a Holds →
    OfEachAsk c (λ ask. is_meant a ask ≡ true → allows c.rules ask ≡ a.is_allowed)

-- If an assertion is empty, it means none.
abbrev pub EmptyMeansNone : Type 0
EmptyMeansNone = (c : Configuration) (a : Assertion) (steps : ℕ) → IsJudged c steps a Empty →
    OfEachAsk c (λ ask. is_meant a ask ≡ false)
