-- The line that `bacgwctl lint` has for a rule.
use Rattle.std.specs.Prelude.{◌≡◌, ℕ, ◌-◌, ◌&&◌, Bool, true, false, not, if◌then◌else◌, List, [], ◌∷◌, ◌++◌, slice_get, take}
use Rattle.std.specs.Prelude.{codes, decimal}
use Rattle.std.specs.List.{list_all}
use Rattle.std.specs.Option.{option_map_or}
use Rattle.gw_ask_sets.specs.AskText.{ask_fields_text}
use Rattle.gw_rules.specs.RuleList.{allows_at}
use Rattle.gw_rules.specs.declared.rule.Rule.{Rule}
use Rattle.gw_configuration.specs.Configuration.{Configuration}
use Rattle.gw_policy_review.specs.Places.{is_derived, place_words}
use Rattle.gw_policy_review.specs.declared.lint.finding.Finding.{Finding}
use Rattle.gw_policy_review.specs.declared.lint.finding.Finding.TheVariants as finding

-- ---- a rule

-- the name of the rule of a number
abbrev pub name_at : List Rule → ℕ → List ℕ
name_at rules number = option_map_or (λ rule. rule.name) (slice_get rules (number - 1)) []

-- a rule of a configuration by its number and its name, and the place of its table, where that has another number; the tables
-- begin on these lines of the text
abbrev pub rule_text : Configuration → (lines : List ℕ) → ℕ → List ℕ
rule_text c lines number = codes "rule " ++ decimal number ++ codes " " ++ name_at c.rules number ++ place_words c.tables lines number

-- two rules both allow, or both deny
abbrev pub says_same : List Rule → ℕ → ℕ → Bool
says_same rules one other = if allows_at rules one then allows_at rules other else not (allows_at rules other)

-- what one rule says beside another
abbrev pub likeness_text : List Rule → ℕ → ℕ → List ℕ
likeness_text rules one other = if says_same rules one other then codes "same" else codes "opposite"

-- what is found of the rule of a number
abbrev pub found_text : Configuration → (lines : List ℕ) → ℕ → Finding → List ℕ
found_text c lines number finding.MatchesNothing = codes "matches no ask that this gateway raises"
found_text c lines number (finding.TakenBy by) =
    codes "never decides: " ++ rule_text c lines by ++ codes " takes all that it matches, and says the "
    ++ likeness_text c.rules by number
found_text c lines number finding.TakenTogether =
    codes "never decides: the rules before it together take all that it matches"
found_text c lines number (finding.Decides ask) = codes "decides, for one," ++ ask_fields_text ask
found_text c lines number finding.Unknown = codes "can't tell within the steps given"

-- ---- rules of which nothing is said

-- an ask was found that the rule of this number decides
abbrev pub is_decider : Finding → Bool
is_decider (finding.Decides ask) = true
is_decider _ = false

abbrev pub decides_at : List Finding → ℕ → Bool
decides_at findings number = option_map_or is_decider (slice_get findings (number - 1)) false

-- the rule of this number decides nothing, since a rule that allows takes all that it matches, or no rule before it denies
abbrev pub is_allowed_before : List Rule → ℕ → Finding → Bool
is_allowed_before rules number (finding.TakenBy by) = allows_at rules by
is_allowed_before rules number finding.TakenTogether = list_all (λ rule. rule.allow) (take (number - 1) rules)
is_allowed_before rules number _ = false

-- the number of the rule that a rule for the way or for the answers goes with
abbrev pub head_of : (tables : List ℕ) → ℕ → ℕ
head_of tables number = if is_derived tables (number - 1) then number - 2 else number - 1

-- Of a rule for the way or for the answers nothing is said, if what it is for is allowed before it, and the rule that it goes with
-- decides something.
abbrev pub is_left_out : Configuration → List Finding → ℕ → Finding → Bool
is_left_out c findings number found =
    is_derived c.tables number && (is_allowed_before c.rules number found && decides_at findings (head_of c.tables number))

-- a rule that decides has a line only where that is asked for
abbrev pub is_listed : Bool → Configuration → List Finding → ℕ → Finding → Bool
is_listed explains c findings number (finding.Decides ask) = explains
is_listed explains c findings number found = not (is_left_out c findings number found)

-- the line of the rule of a number, if it has one
abbrev pub line_text : Bool → Configuration → (lines : List ℕ) → List Finding → ℕ → Finding → List ℕ
line_text explains c lines findings number found =
    if is_listed explains c findings number found
    then rule_text c lines number ++ codes ": " ++ found_text c lines number found ++ 10 ∷ []
    else []

-- law: a rule of a table of its own is not left out
abbrev pub OwnRulesAreSaid : Type 0
OwnRulesAreSaid = (c : Configuration) (findings : List Finding) (number : ℕ) (found : Finding) → is_derived c.tables number ≡ false
    → is_left_out c findings number found ≡ false
