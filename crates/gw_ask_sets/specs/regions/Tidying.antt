-- Lists of ranges in order, of which none overlaps or touches another: and rules whose ranges are so.
use Rattle.std.specs.Prelude.{◌≡◌, ℕ, ◌+◌, ◌-◌, ◌≤◌, ⊤, Bool, true, ◌&&◌, ◌||◌, ◌==◌, nat_le, nat_lt, if◌then◌else◌, List, [], ◌∷◌, map, Option, Some, None}
use Rattle.std.specs.List.{list_all, list_any}
use Rattle.std.specs.Option.{option_map_or}
use Rattle.gw_rules.specs.Ask.{Ask}
use Rattle.gw_rules.specs.Range.{holds, is_ordered}
use Rattle.gw_rules.specs.Rule.{matches}
use Rattle.gw_rules.specs.declared.fields.Fields.{Fields}
use Rattle.gw_rules.specs.declared.range.Range.{Range}
use Rattle.gw_rules.specs.declared.rule.Rule.{Rule}
use Rattle.gw_ask_sets.specs.regions.Ranges.{between, greater, lesser}

-- ---- in words

-- from a number on: each range has numbers, and begins above the number that follows the one before it
abbrev pub AreApart : ℕ → List Range → Type 0
AreApart from [] = ⊤
AreApart from (x ∷ xs) = (from ≤ x.low) × (x.low ≤ x.high) × AreApart (x.high + 2) xs

-- in order, and none overlaps or touches another
abbrev pub AreTidy : List Range → Type 0
AreTidy xs = AreApart 0 xs

-- ---- one by one

-- a range begins at the end of another one, right after it, or before that
abbrev pub reaches : Range → Range → Bool
reaches a b = nat_le b.low a.high || (b.low - 1 == a.high)

-- one range in the place of two, if they overlap or touch, or one of them has no number
abbrev pub joined : Range → Range → Option Range
joined a b =
    if nat_lt a.high a.low then Some b
    else if nat_lt b.high b.low then Some a
    else if reaches a b && reaches b a then Some (between (lesser a.low b.low) (greater a.high b.high))
    else None

-- a range put into a list in order, as one with those that it overlaps or touches
abbrev pub put_into : List Range → Range → List Range
put_into [] range = range ∷ []
put_into (x ∷ xs) range =
    option_map_or (λ both. put_into xs both) (joined range x)
    (if nat_lt x.low range.low then x ∷ put_into xs range else range ∷ put_into xs x)

abbrev pub put_all : List Range → List Range → List Range
put_all list [] = list
put_all list (x ∷ xs) = put_all (put_into list x) xs

-- the numbers of a list, in order
abbrev pub tidy : List Range → List Range
tidy xs = put_all [] xs

-- ---- rules

abbrev pub tidy_each : Fields (List Range) → Fields (List Range)
tidy_each ranges = record {
  operation = tidy ranges.operation;
  port = tidy ranges.port;
  source_network = tidy ranges.source_network;
  source_key = tidy ranges.source_key;
  destination_network = tidy ranges.destination_network;
  service = tidy ranges.service;
  object_type = tidy ranges.object_type;
  instance = tidy ranges.instance;
  property = tidy ranges.property;
  priority = tidy ranges.priority;
  sender = tidy ranges.sender;
  station = tidy ranges.station;
}

-- a rule with the ranges of each field in order
abbrev pub tidied : Rule → Rule
tidied rule = record rule { ranges = tidy_each rule.ranges }

abbrev pub all_tidied : List Rule → List Rule
all_tidied rules = map tidied rules

-- ---- the laws

-- The numbers stay the same.
abbrev pub TidyHasTheSame : Type 0
TidyHasTheSame = (xs : List Range) (number : ℕ) → list_any (holds number) (tidy xs) ≡ list_any (holds number) xs

-- Ranges that all have numbers are in order then, and none overlaps or touches another.
abbrev pub TidyIsTidy : Type 0
TidyIsTidy = (xs : List Range) → list_all is_ordered xs ≡ true → AreTidy (tidy xs)

-- Two lists in order that hold the same numbers are one.
abbrev pub TidyIsOne : Type 0
TidyIsOne = (xs ys : List Range) → AreTidy xs → AreTidy ys
    → ((number : ℕ) → list_any (holds number) xs ≡ list_any (holds number) ys) → xs ≡ ys

-- A rule matches the same asks.
abbrev pub TidiedMatchesTheSame : Type 0
TidiedMatchesTheSame = (rule : Rule) (ask : Ask) → matches (tidied rule) ask ≡ matches rule ask
