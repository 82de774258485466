-- What is found of a rule, and when it is true of it.
use Rattle.std.specs.Prelude.{◌≡◌, ℕ, ◌+◌, ◌-◌, ◌<◌, ◌≤◌, true, List, [], ◌∷◌, length, Option, Some, None, position, slice_get, take}
use Rattle.gw_rules.specs.RuleList.{HasNumber}
use Rattle.gw_rules.specs.declared.rule.Rule.{Rule}
use Rattle.gw_ask_sets.specs.regions.Ranges.{lesser}
use Rattle.gw_ask_sets.specs.regions.Tidying.{all_tidied}
use Rattle.gw_ask_sets.specs.shapes.Cover.{MatchesNothing, TakesAll, is_met, takes_all}
use Rattle.gw_ask_sets.specs.shapes.Search.{IsFirstFor, IsFound, IsNeverFirst, IsSought, IsUsedUp}
use Rattle.gw_ask_sets.specs.shapes.Shape.{Shape}
use Rattle.gw_ask_sets.specs.declared.shapes.search.Outcome.{Outcome}
use Rattle.gw_ask_sets.specs.declared.shapes.search.Outcome.TheVariants as outcome
use Rattle.gw_policy_review.specs.declared.lint.finding.Finding.{Finding}
use Rattle.gw_policy_review.specs.declared.lint.finding.Finding.TheVariants as finding

-- the place of the first of these rules that is seen to match whatever another one matches
abbrev pub taker : List Shape → List Rule → Rule → Option ℕ
taker shapes rules later = position (λ earlier. takes_all shapes earlier later) rules

-- of the rules before one that matches something, that of this number is the first that takes all of it
pub record IsTakenBy (shapes : List Shape) (rules : List Rule) (number by : ℕ) (later : Rule) : Type 0 where
  pub earlier : Rule
  pub numbered : HasNumber rules by earlier
  pub before : by < number
  pub takes : TakesAll shapes earlier later
  pub least : taker shapes (take (number - 1) rules) later ≡ Some (by - 1)

-- no rule before it is seen to take all that it matches
abbrev pub IsTakenByNone : List Shape → List Rule → ℕ → Rule → Type 0
IsTakenByNone shapes rules number later = taker shapes (take (number - 1) rules) later ≡ None

-- a search for an ask that the rule of this number decides used up the steps that it was given: of the rules with their ranges in
-- order, which match the same asks
abbrev pub IsUnknown : List Shape → List Rule → ℕ → Type 0
IsUnknown shapes rules number = (given : ℕ) × IsUsedUp shapes (all_tidied rules) number given

-- what a finding says of a rule: of an ask that it decides, that it is one of the shapes and the rule the first to match
-- it, and where nothing is known, that neither of the first two is found, and that the search used up its steps
abbrev pub Finds : List Shape → List Rule → ℕ → Rule → Finding → Type 0
Finds shapes rules number rule finding.MatchesNothing = MatchesNothing shapes rule
Finds shapes rules number rule (finding.TakenBy by) =
    (is_met shapes rule ≡ true) × IsTakenBy shapes rules number by rule
Finds shapes rules number rule finding.TakenTogether =
    (is_met shapes rule ≡ true) × IsTakenByNone shapes rules number rule × IsNeverFirst shapes rules number
Finds shapes rules number rule (finding.Decides ask) =
    (is_met shapes rule ≡ true) × IsTakenByNone shapes rules number rule × IsFirstFor shapes rules number ask
Finds shapes rules number rule finding.Unknown =
    (is_met shapes rule ≡ true) × IsTakenByNone shapes rules number rule × IsUnknown shapes rules number

-- ---- how many steps they take

-- how many one of several searches is given: 1,024, or those that are left for all
abbrev pub steps_given : (left : ℕ) → ℕ
steps_given left = lesser 1024 left

-- how many were made for a finding: none where no search was
abbrev pub IsCounted : List Shape → List Rule → (number given count : ℕ) → Finding → Type 0
IsCounted shapes rules number given count finding.MatchesNothing = count ≡ 0
IsCounted shapes rules number given count (finding.TakenBy by) = count ≡ 0
IsCounted shapes rules number given count finding.TakenTogether = IsSought shapes (all_tidied rules) number given count outcome.Never
IsCounted shapes rules number given count (finding.Decides ask) =
    IsSought shapes (all_tidied rules) number given count (outcome.Decides ask)
IsCounted shapes rules number given count finding.Unknown = IsSought shapes (all_tidied rules) number given count outcome.Unknown

-- for these, of the rules from a number on, one after the other: so many steps are left before, and after
abbrev pub AreCounted : List Shape → List Rule → (number : ℕ) → List Finding → (left rest : ℕ) → Type 0
AreCounted shapes rules number [] left rest = rest ≡ left
AreCounted shapes rules number (found ∷ findings) left rest =
    (count between : ℕ) × IsCounted shapes rules number (steps_given left) count found × (left ≡ between + count)
    × AreCounted shapes rules (number + 1) findings between rest

-- ---- all of them

-- There is one finding for each rule, in their order, and each says what is true. The searches for them share steps: so many are left
-- before them, and after.
pub record AreTrue (shapes : List Shape) (rules : List Rule) (left rest : ℕ) (findings : List Finding) : Type 0 where
  pub count : length findings ≡ length rules
  pub each : (number : ℕ) (rule : Rule) (found : Finding) → HasNumber rules number rule →
      slice_get findings (number - 1) ≡ Some found → Finds shapes rules number rule found
  pub counted : AreCounted shapes rules 1 findings left rest

-- ---- of a search alone

-- what is said of a rule by what its search comes to
abbrev pub finding_by : Outcome → Finding
finding_by outcome.Never = finding.TakenTogether
finding_by (outcome.Decides ask) = finding.Decides ask
finding_by outcome.Unknown = finding.Unknown

-- so many steps of a search come to this for the rule of this number
pub record IsSearched (shapes : List Shape) (rules : List Rule) (number given count : ℕ) (found : Finding) : Type 0 where
  pub outcome : Outcome
  pub right : IsFound shapes rules number outcome
  pub sought : IsSought shapes rules number given count outcome
  pub most : count ≤ given
  pub shown : found ≡ finding_by outcome

-- what is found of the rule of a number with so many steps
pub record IsFinding (shapes : List Shape) (rules : List Rule) (number given count : ℕ) (found : Finding) : Type 0 where
  pub each : (rule : Rule) → HasNumber rules number rule → Finds shapes rules number rule found
  pub counted : IsCounted shapes rules number given count found
