-- What is allowed with suggested rules in front of a policy's.
use Rattle.std.specs.Prelude.{◌≡◌, ◌≢◌, ℕ, Bool, true, false, not, ◌||◌, List, [], ◌++◌, Some, Any}
use Rattle.std.specs.List.{Contains}
use Rattle.gw_configuration.specs.Configuration.{Configuration}
use Rattle.gw_rules.specs.Ask.{Ask}
use Rattle.gw_rules.specs.Fields.{value_of}
use Rattle.gw_rules.specs.RuleList.{allows}
use Rattle.gw_rules.specs.declared.field.FieldName.{FieldName}
use Rattle.gw_rules.specs.declared.field.FieldName.TheVariants.{Service}
use Rattle.gw_rules.specs.declared.rule.Rule.{Rule}
use Rattle.gw_policy_drafts.specs.suggestion.Given.{akin, filled, is_open, of_both, taken}
use Rattle.gw_policy_drafts.specs.suggestion.Own.{is_reading}
use Rattle.gw_policy_drafts.specs.suggestion.Suggestion.{IsAdded, IsSuggestion, matched, wanted}
use Rattle.gw_policy_drafts.specs.declared.suggestion.suggestion.Manner.{Manner}

-- in each field that one ask has the other has its value; in the service of a read or a list only if it is kept
pub record HasValuesOf (keeps : Bool) (given ask : Ask) : Type 0 where
  pub others : (field : FieldName) (number : ℕ) → field ≢ Service
      → value_of field given ≡ Some number → value_of field ask ≡ Some number
  pub service : (number : ℕ) → (keeps || not (is_reading given)) ≡ true → given.service ≡ Some number → ask.service ≡ Some number

-- Of rules that are suggested for a configuration without assertions none is left out.
abbrev pub LeavesNoneOut : Type 0
LeavesNoneOut = (old : Configuration) (text : List ℕ) (manner : Manner) (asks : List Ask) (added : List ℕ)
    → (is : IsAdded old text manner asks added) → old.assertions ≡ [] → is.left ≡ []

-- With some of the rules in front, without those that are left out, an ask is allowed exactly if it matches one of them or was
-- allowed before.
abbrev pub AllowsWhatMatches : Type 0
AllowsWhatMatches = (keeps : Bool) (asks : List Ask) (kept left old : List Rule) (ask : Ask) → IsSuggestion keeps asks (kept ++ left)
    → allows (kept ++ old) ask ≡ (matched kept ask || allows old ask)

-- Each given ask is allowed, if it isn't open and none of the rules that are left out matches it.
abbrev pub AllowsEach : Type 0
AllowsEach = (manner : Manner) (asks : List Ask) (kept left old : List Rule) (ask : Ask)
    → IsSuggestion manner.keeps_services (wanted manner asks) (kept ++ left) → Contains asks ask
    → is_open ask ≡ false → (allows (kept ++ old) ask || matched left ask) ≡ true

-- No open ask is newly allowed: a read that is names its object and property, and a write its priority too.
abbrev pub OpensNothing : Type 0
OpensNothing = (manner : Manner) (asks : List Ask) (kept left old : List Rule) (ask : Ask)
    → IsSuggestion manner.keeps_services (wanted manner asks) (kept ++ left)
    → allows (kept ++ old) ask ≡ true → allows old ask ≡ false → is_open ask ≡ false

-- An ask that they newly allow has the values of one for which they are made: no value that wasn't seen, and no two that
-- weren't seen together.
abbrev pub AllowsNoOther : Type 0
AllowsNoOther = (keeps : Bool) (asks : List Ask) (kept left old : List Rule) (ask : Ask) → IsSuggestion keeps asks (kept ++ left)
    → allows (kept ++ old) ask ≡ true → allows old ask ≡ false → Any (λ given. HasValuesOf keeps given ask) asks

-- If they are filled, it has the object of one, the property and the priority of another one, and all else of both: of the
-- same station, for the same operation and destination.
abbrev pub FillsNoOther : Type 0
FillsNoOther = (keeps : Bool) (asks : List Ask) (kept left old : List Rule) (ask : Ask)
    → IsSuggestion keeps (taken (filled asks)) (kept ++ left) → allows (kept ++ old) ask ≡ true → allows old ask ≡ false
    → Any (λ one. Any (λ other. (akin one other ≡ true) × HasValuesOf keeps (of_both one other) ask) asks) asks
