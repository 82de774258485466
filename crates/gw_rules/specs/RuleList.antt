-- The first rule that matches, whether the policy allows an ask, and the limits of a rule list.
use Rattle.std.specs.Prelude.{◌≡◌, ℕ, ◌+◌, ◌-◌, ◌≤◌, ◌<◌, Bool, false, ◌&&◌, not, if◌then◌else◌, nat_le, IsTrue, List}
use Rattle.std.specs.Prelude.{length, map, Option, Some, slice_get, position, All}
use Rattle.std.specs.List.{list_all, sum_by}
use Rattle.std.specs.Option.{option_map, option_map_or}
use Rattle.gw_rules.specs.Ask.{Ask}
use Rattle.gw_rules.specs.declared.decision.Decision.{Decision}
use Rattle.gw_rules.specs.declared.decision.Decision.TheVariants.{Allow, Deny}
use Rattle.gw_rules.specs.declared.rule.Rule.{Rule}
use Rattle.gw_rules.specs.declared.rule_list.TheConstants.{MAX_RANGES_IN_ALL, MAX_RULES}
use Rattle.gw_rules.specs.declared.field.FieldName.{FieldName}
use Rattle.gw_rules.specs.Rule.{each_field, matches, Matches, ranges_of, HasFewRanges, has_few_ranges, HasLongRanges, has_long_ranges}
use Rattle.gw_rules.specs.Rule.{HasOrderedRanges, has_ordered_ranges}

-- the number of the first rule that matches an ask, counted from 1, or none
unfoldable pub first : List Rule → Ask → Option ℕ
first rules ask = option_map (λ place. place + 1) (position (λ rule. matches rule ask) rules)

-- a number of one of the rules
abbrev pub IsNumberOf : List Rule → ℕ → Type 0
IsNumberOf rules number = (1 ≤ number) × (number ≤ length rules)

-- the rule of a number says allow
abbrev pub allows_at : List Rule → ℕ → Bool
allows_at rules number = option_map_or (λ rule. rule.allow) (slice_get rules (number - 1)) false

-- the rule of a number is quiet
abbrev pub is_quiet_at : List Rule → ℕ → Bool
is_quiet_at rules number = option_map_or (λ rule. rule.quiet) (slice_get rules (number - 1)) false

-- the rule of a number, if it is one's, is quiet
abbrev pub is_quiet_by : List Rule → Option ℕ → Bool
is_quiet_by rules by = option_map_or (is_quiet_at rules) by false

-- the rule as it is where it isn't quiet
abbrev pub spoken : Rule → Rule
spoken rule = record rule { quiet = false }

-- the rules so
abbrev pub without_quiet : List Rule → List Rule
without_quiet rules = map spoken rules

-- no rule is quiet
abbrev pub has_no_quiet : List Rule → Bool
has_no_quiet rules = list_all (λ rule. not rule.quiet) rules

-- a policy allows an ask if there is a first rule that matches, and it says allow
unfoldable pub allows : List Rule → Ask → Bool
allows rules ask = option_map_or (allows_at rules) (first rules ask) false

-- a denial is logged unless the rule that denies is quiet
abbrev pub is_logged : List Rule → Ask → Bool
is_logged rules ask = not (allows rules ask) && not (is_quiet_by rules (first rules ask))

-- what a policy says of an ask: allow, or deny by its first rule, or by none
abbrev pub decide : List Rule → Ask → Decision
decide rules ask = if allows rules ask then Allow else Deny (first rules ask)

-- a rule has a number, its place in the list counted from 1
pub record HasNumber (rules : List Rule) (number : ℕ) (rule : Rule) : Type 0 where
  pub counted : 1 ≤ number
  pub there : slice_get rules (number - 1) ≡ Some rule

-- the rule of this number matches the ask, and no rule of a lower number does: what `first` answers, in words
pub record IsFirst (rules : List Rule) (ask : Ask) (number : ℕ) : Type 0 where
  pub rule : Rule
  pub numbered : HasNumber rules number rule
  pub matching : Matches rule ask
  pub least : (lower : ℕ) (other : Rule) → lower < number → HasNumber rules lower other → ¬ Matches other ask

-- there is a first rule that matches, and it says allow: what `allows` answers, in words
abbrev pub Allows : List Rule → Ask → Type 0
Allows rules ask = (number : ℕ) × (deciding : IsFirst rules ask number) × IsTrue deciding.rule.allow

-- at most 512 rules, and each with at most four ranges for a field
abbrev pub keeps_counts : List Rule → Bool
keeps_counts rules = nat_le (length rules) MAX_RULES && list_all has_few_ranges rules

-- how many ranges all rules together have for a field
abbrev pub ranges_in_all : List Rule → FieldName → ℕ
ranges_in_all rules field = sum_by (λ rule. length (ranges_of field rule)) rules

-- at most 512 rules, each with at most 256 ranges for a field, and 2048 for a field in all
unfoldable pub keeps_long_counts : List Rule → Bool
keeps_long_counts rules =
    nat_le (length rules) MAX_RULES
    && (list_all has_long_ranges rules && each_field (λ field. nat_le (ranges_in_all rules field) MAX_RANGES_IN_ALL))

-- no range has its low end above its high end
abbrev pub keeps_order : List Rule → Bool
keeps_order rules = list_all has_ordered_ranges rules

-- the limits of counts, in words
abbrev pub KeepsCounts : List Rule → Type 0
KeepsCounts rules = (length rules ≤ MAX_RULES) × All HasFewRanges rules

-- the same of a long list
pub record KeepsLongCounts (rules : List Rule) : Type 0 where
  pub few_rules : length rules ≤ MAX_RULES
  pub each_rule : All HasLongRanges rules
  pub in_all : (field : FieldName) → ranges_in_all rules field ≤ MAX_RANGES_IN_ALL

-- the limits of ends, in words
abbrev pub KeepsOrder : List Rule → Type 0
KeepsOrder rules = All HasOrderedRanges rules
