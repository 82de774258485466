-- What the text of a comparison of two configurations says of every event of a gateway of either.
use Rattle.std.specs.Prelude.{◌≡◌, ◌≢◌, ℕ, true, List}
use Rattle.std.specs.List.{AllByRecursion}
use Rattle.gw_configuration.specs.Configuration.{Configuration}
use Rattle.gw_policy_review.specs.comparison.Comparison.{IsComparisonText, Manner}
use Rattle.gw_policy_review.specs.comparison.Laws.{is_paired, says_alike}
use Rattle.gw_policy_review.specs.declared.comparison.comparison.Compared.{Compared}
use Rattle.gw_policy_review.specs.declared.comparison.comparison.Compared.TheVariants as compared
use Rattle.gw_ask_sets.specs.regions.Comparing.{IsDecided, differs, is_found}
use Rattle.gw_ask_sets.specs.regions.Regions.{lies}
use Rattle.gw_rules.specs.Ask.{Ask}
use Rattle.gw_rules.specs.RuleList.{allows}
use Rattle.gw_verdicts.specs.Laws.{OfEachAsk}

-- this holds of each ask of every event of a gateway of the old or of the new configuration, whatever came before
abbrev pub OfBoth : Configuration → Configuration → (Ask → Type 0) → Type 0
OfBoth old new Holds = OfEachAsk old Holds × OfEachAsk new Holds

-- Unless the comparison isn't finished, or is by pairs alone, it is decided otherwise exactly if it lies in a region that was
-- found.
abbrev pub EventsAreCompared : Type 0
EventsAreCompared = (old new : Configuration) (how : Manner) (made : Compared) (text : List ℕ)
    (translated : IsComparisonText old new how made text) → made ≢ compared.Unfinished → made ≢ compared.Paired
    → OfBoth old new (λ ask. differs old.rules new.rules ask ≡ is_found translated.found ask)

-- If the comparison is by pairs, it is decided otherwise exactly if the two rules that decide it are a pair that was found.
abbrev pub EventsArePaired : Type 0
EventsArePaired = (old new : Configuration) (how : Manner) (made : Compared) (text : List ℕ)
    (translated : IsComparisonText old new how made text) → made ≡ compared.Paired
    → OfBoth old new (λ ask. differs old.rules new.rules ask ≡ is_paired old new translated.pairs ask)

-- If the text says that no ask is decided otherwise, or that only other parts differ, none is.
abbrev pub EventsAreAlike : Type 0
EventsAreAlike = (old new : Configuration) (how : Manner) (made : Compared) (text : List ℕ) → IsComparisonText old new how made text
    → says_alike made ≡ true → OfBoth old new (λ ask. allows old.rules ask ≡ allows new.rules ask)

-- Finished or not: it is decided as the line of each region says in which it lies.
abbrev pub LinesAreTrueOfEvents : Type 0
LinesAreTrueOfEvents = (old new : Configuration) (how : Manner) (made : Compared) (text : List ℕ)
    (translated : IsComparisonText old new how made text)
    → OfBoth old new (λ ask. AllByRecursion (λ f. lies f.region ask ≡ true → IsDecided old.rules new.rules f ask) translated.found)
