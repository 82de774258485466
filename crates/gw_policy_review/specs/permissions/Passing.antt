-- Which rules may allow asks of a shape.
use Rattle.std.specs.Prelude.{◌≡◌, ⊤, ℕ, zero, suc, ◌+◌, ◌-◌, ◌≤◌, Bool, true, false, not, ◌&&◌, if◌then◌else◌, List, [], ◌∷◌, ◌++◌, length}
use Rattle.std.specs.Prelude.{position, slice_get, take, unwrap_or}
use Rattle.std.specs.List.{list_any}
use Rattle.std.specs.Option.{option_map_or}
use Rattle.gw_rules.specs.Ask.{Ask}
use Rattle.gw_rules.specs.Fields.{value_of}
use Rattle.gw_rules.specs.Rule.{each_field, ranges_of}
use Rattle.gw_rules.specs.RuleList.{allows, allows_at}
use Rattle.gw_rules.specs.declared.rule.Rule.{Rule}
use Rattle.gw_ask_sets.specs.regions.Deciding.{default_rule}
use Rattle.gw_ask_sets.specs.regions.Tidying.{all_tidied}
use Rattle.gw_ask_sets.specs.shapes.Cover.{takes_side}
use Rattle.gw_ask_sets.specs.shapes.Meeting.{meets}
use Rattle.gw_ask_sets.specs.shapes.Search.{IsSought}
use Rattle.gw_ask_sets.specs.shapes.Shape.{LiesInOne, Shape}
use Rattle.gw_ask_sets.specs.declared.shapes.search.Outcome.{Outcome}
use Rattle.gw_ask_sets.specs.declared.shapes.search.Outcome.TheVariants as outcome
use Rattle.gw_policy_review.specs.lint.Finding.{steps_given}
use Rattle.gw_policy_review.specs.declared.lint.finding.Finding.{Finding}
use Rattle.gw_policy_review.specs.declared.lint.finding.Finding.TheVariants as finding

-- in each field that the rule names one of its ranges holds all that the shape has there: it matches each ask of the shape
abbrev pub matches_all : Shape → Rule → Bool
matches_all shape rule = each_field (λ field. takes_side (value_of field shape) (ranges_of field rule) [])

-- how many rules the asks of a shape come to: those up to the first that matches each of them
abbrev pub reached : Shape → List Rule → ℕ
reached shape rules = option_map_or (λ place. place + 1) (position (matches_all shape) rules) (length rules)

-- a rule allows, and may match asks of a shape
abbrev pub may_allow : Shape → Rule → Bool
may_allow shape rule = rule.allow && meets shape rule

-- a rule that asks of the shape come to may allow some
abbrev pub may_pass : Shape → List Rule → Bool
may_pass shape rules = list_any (may_allow shape) (take (reached shape rules) rules)

-- the rule of this number matches each ask of the shape, and no rule before it matches any
abbrev pub decides_all : Shape → List Rule → ℕ → Rule → Bool
decides_all shape rules number rule =
    matches_all shape rule && not (list_any (meets shape) (take (number - 1) rules))

-- ---- by the exact search

-- what is found of the rule of this number
abbrev pub finding_at : List Finding → ℕ → Finding
finding_at findings number = unwrap_or (slice_get findings (number - 1)) finding.MatchesNothing

-- a rule allows, and decides an ask of those that are looked at, or the search for one used up its steps
abbrev pub lets : Rule → Finding → Bool
lets rule (finding.Decides ask) = rule.allow
lets rule finding.Unknown = rule.allow
lets rule _ = false

-- the rules as they are searched: their ranges are in order, so that they match the same asks, and the default is behind them
abbrev pub searched_rules : List Rule → List Rule
searched_rules rules = all_tidied rules ++ default_rule ∷ []

-- the rule of this number says so: it allows, or it denies
abbrev pub is_said : List Rule → ℕ → Bool → Bool
is_said rules number says = if says then allows_at rules number else not (allows_at rules number)

-- the search for an ask of these shapes that the rule of this number decides, if one is made, has so many steps of those that it
-- is given, and comes to this
abbrev pub IsSoughtIf : (is_made : Bool) → List Shape → List Rule → (number given count : ℕ) → Outcome → Type 0
IsSoughtIf true shapes rules number given count found = IsSought shapes rules number given count found × (count ≤ given)
IsSoughtIf false shapes rules number given count found = (count ≡ 0) × (found ≡ outcome.Never)

-- none is made for a rule that says the other thing
abbrev pub IsSaidBy : Bool → List Shape → List Rule → (number given count : ℕ) → Outcome → Type 0
IsSaidBy says shapes rules number given count found = IsSoughtIf (is_said rules number says) shapes rules number given count found

-- the searches for the first so many rules find none, and have so many steps in all: each is given those that are left
abbrev pub AreVain : Bool → List Shape → List Rule → (given number count : ℕ) → Type 0
AreVain says shapes rules given zero count = count ≡ 0
AreVain says shapes rules given (suc number) count =
    (before here : ℕ) × AreVain says shapes rules given number before
    × IsSaidBy says shapes rules (number + 1) (given - before) here outcome.Never × (count ≡ before + here)

-- rule by rule: all find none, or one finds an ask, or uses up the steps that are left, and is the last
abbrev pub AreMade : Bool → List Shape → List Rule → (given count : ℕ) → Outcome → Type 0
AreMade says shapes rules given count outcome.Never = AreVain says shapes rules given (length rules) count
AreMade says shapes rules given count found =
    (number before here : ℕ) × AreVain says shapes rules given number before
    × IsSaidBy says shapes rules (number + 1) (given - before) here found × (count ≡ before + here)

-- what is found is right: one that the policy decides so, or that it decides each otherwise
abbrev pub IsRight : Bool → List Shape → List Rule → Outcome → Type 0
IsRight says shapes rules outcome.Never = (ask : Ask) → LiesInOne shapes ask → allows rules ask ≡ not says
IsRight says shapes rules (outcome.Decides ask) = LiesInOne shapes ask × (allows rules ask ≡ says)
IsRight says shapes rules outcome.Unknown = ⊤

-- A search for an ask of these shapes that the policy decides so is given so many steps, which the searches for its rules share,
-- and has so many of them.
pub record IsDecision (says : Bool) (shapes : List Shape) (rules : List Rule) (given count : ℕ) (found : Outcome) : Type 0 where
  pub right : IsRight says shapes rules found
  pub made : AreMade says shapes (searched_rules rules) given count found
  pub most : count ≤ given
  -- nothing is known only if all were used
  pub all : found ≡ outcome.Unknown → count ≡ given

-- one of those for an ask that the policy allows, which are made for lines or notes and share steps: so many are left before it, and after
abbrev pub IsPassage : List Shape → List Rule → (left rest : ℕ) → Outcome → Type 0
IsPassage shapes rules left rest found =
    (count : ℕ) × IsDecision true shapes rules (steps_given left) count found × (left ≡ rest + count)

-- each ask is decided otherwise
abbrev pub is_never : Outcome → Bool
is_never outcome.Never = true
is_never _ = false
