-- How many asks each rule of a policy decides.
use Rattle.std.specs.Prelude.{◌≡◌, ℕ, ◌+◌, ◌-◌, ◌^◌, ◌<◌, ◌==◌, false, min, if◌then◌else◌, List, ◌++◌, length, count_by, slice_index, cond}
use Rattle.std.specs.Prelude.{codes, decimal, Option}
use Rattle.std.specs.Option.{option_map_or}
use Rattle.gw_rules.specs.Ask.{Ask}
use Rattle.gw_rules.specs.Rule.{quiet_mark}
use Rattle.gw_rules.specs.RuleList.{first}
use Rattle.gw_rules.specs.declared.rule.Rule.{Rule}
use Rattle.gw_script.specs.Order.{in_order}

-- the place of an ask: the number of the first rule that matches, from 1, or 0 if none does
abbrev pub place : List Rule → Ask → ℕ
place rules ask = option_map_or (λ number. number) (first rules ask) 0

-- how many of the asks are of this place
abbrev pub decided : List Rule → ℕ → List Ask → ℕ
decided rules k asks = count_by (λ ask. place rules ask == k) asks

-- these are the counts of asks, one for each place: for no rule, and then for each rule
pub record IsTally (rules : List Rule) (asks : List Ask) (counts : List ℕ) : Type 0 where
  pub places : length counts ≡ length rules + 1
  pub each : (k : ℕ) → k < length counts → slice_index counts k ≡ decided rules k asks

-- one ask more is of this place
pub record AddsOne (at : ℕ) (before after : List ℕ) : Type 0 where
  pub places : length after ≡ length before
  pub each : (k : ℕ) → k < length before → slice_index after k ≡ slice_index before k + cond (at == k) 1 0

-- the place of an ask that the rule of this number decides, or none
abbrev pub place_of : Option ℕ → ℕ
place_of by = option_map_or (λ number. number) by 0

-- one more of a count of 64 bits, which stays at its end
abbrev pub one_more : ℕ → ℕ
one_more n = min (n + 1) (2 ^ 64 - 1)

-- and so many more
abbrev pub more : (asks n : ℕ) → ℕ
more asks n = if asks == 0 then n else min (n + asks) (2 ^ 64 - 1)

-- so many asks more are of this place, and its count may be at its end
pub record CountsMore (at asks : ℕ) (before after : List ℕ) : Type 0 where
  pub places : length after ≡ length before
  pub each : (k : ℕ) → k < length before
      → slice_index after k ≡ (if at == k then more asks (slice_index before k) else slice_index before k)

-- a rule by its number and its name
abbrev pub rule_text : ℕ → Rule → List ℕ
rule_text number rule = codes "rule " ++ decimal number ++ codes " " ++ rule.name ++ quiet_mark rule.quiet

-- the line of a rule: `rule 3 all: 1201`, or `rule 2 hush (quiet): 17`
abbrev pub rule_line : ℕ → Rule → ℕ → List ℕ
rule_line number rule count = rule_text number rule ++ codes ": " ++ decimal count ++ codes "\n"

-- the line of a rule that isn't quiet is that of its number, its name and its count
abbrev pub PlainLineStays : Type 0
PlainLineStays = (number count : ℕ) (rule : Rule) → rule.quiet ≡ false
    → rule_line number rule count ≡ codes "rule " ++ decimal number ++ codes " " ++ rule.name ++ codes ": " ++ decimal count ++ codes "\n"

-- the line of the rule of this number by these counts
abbrev pub line_in : List ℕ → ℕ → Rule → List ℕ
line_in counts number rule = rule_line number rule (slice_index counts number)

-- and the one for no rule: `default: 17`
abbrev pub default_line : List ℕ → List ℕ
default_line counts = codes "default: " ++ decimal (slice_index counts 0) ++ codes "\n"

abbrev pub tally_text : List Rule → List ℕ → List ℕ
tally_text rules counts = in_order (line_in counts) 1 rules ++ default_line counts
