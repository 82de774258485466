-- What a gateway does under the rules of another configuration that decide alike by a comparison.
use Rattle.std.specs.Prelude.{◌≡◌, ℕ, true, List}
use Rattle.std.specs.List.{AllByRecursion}
use Rattle.gw_configuration.specs.Configuration.{Configuration}
use Rattle.gw_core.specs.State.{State}
use Rattle.gw_core_laws.specs.Decisions.{RunAlike, RunSendAlike}
use Rattle.gw_policy_review.specs.comparison.Comparison.{IsComparisonText, Manner}
use Rattle.gw_policy_review.specs.comparison.Laws.{says_alike}
use Rattle.gw_policy_review.specs.declared.comparison.comparison.Compared.{Compared}
use Rattle.gw_policy_review.specs.declared.comparison.comparison.Compared.TheVariants as compared
use Rattle.gw_rules.specs.RuleList.{has_no_quiet}
use Rattle.gw_script.specs.Event.{Event}
use Rattle.gw_verdicts.specs.Laws.{IsCarried, IsNumbered}
use Rattle.gw_verdicts.specs.States.{IsStateUnder}

-- If the text of a comparison says that no ask is decided otherwise, a gateway of the old configuration sends under the new
-- rules what it sends under its own, whatever comes, one event after the other, and is left in the same state, but for the
-- number of its last denial. If neither has a quiet rule, or the text says that no other part differs either, it also denies
-- the same, if perhaps by a rule of another name, and so that number is the same.
abbrev pub AlikeRunsAlike : Type 0
AlikeRunsAlike = (old new : Configuration) (how : Manner) (made : Compared) (text : List ℕ) → IsComparisonText old new how made text →
    says_alike made ≡ true → IsNumbered old → (w : State) → IsStateUnder old w → (l : List Event) →
    AllByRecursion IsCarried l →
    RunSendAlike w new.rules l
    × (has_no_quiet old.rules ≡ true → has_no_quiet new.rules ≡ true → RunAlike w new.rules l)
    × (made ≡ compared.Alike → RunAlike w new.rules l)
