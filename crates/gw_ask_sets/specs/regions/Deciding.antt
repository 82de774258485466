-- What of a policy decides in a region: some of its rules, in order, and what is said where none of them matches.
use Rattle.std.specs.Prelude.{◌≡◌, ℕ, Bool, true, false, if◌then◌else◌, List, [], ◌∷◌, codes, drop, reverse, slice_get}
use Rattle.std.specs.List.{flat_map}
use Rattle.std.specs.Option.{option_to_list}
use Rattle.gw_rules.specs.Ask.{Ask}
use Rattle.gw_rules.specs.Fields.{in_each}
use Rattle.gw_rules.specs.Rule.{matches}
use Rattle.gw_rules.specs.RuleList.{allows}
use Rattle.gw_rules.specs.declared.rule.Rule.{Rule}
use Rattle.gw_ask_sets.specs.regions.Regions.{Region, lies}

-- what the first rule that matches says, or else this
abbrev pub decided : List Rule → Bool → Ask → Bool
decided [] otherwise ask = otherwise
decided (rule ∷ rules) otherwise ask = if matches rule ask then rule.allow else decided rules otherwise ask

-- the default as a rule after all others: what none of them matches is denied
abbrev pub default_rule : Rule
default_rule = record { name = codes "default"; allow = false; quiet = false; ranges = in_each [] }

-- the rules at these places
abbrev pub rules_at : List Rule → List ℕ → List Rule
rules_at rules places = flat_map (λ place. option_to_list (slice_get rules place)) places

-- The places are those of the last rule first.
abbrev pub decided_by : List Rule → List ℕ → Bool → Ask → Bool
decided_by rules places otherwise ask = decided (rules_at rules (reverse places)) otherwise ask

-- in a region these rules decide as all rules from a place on do
abbrev pub DecidesIn : List Rule → Region → ℕ → List ℕ → Bool → Type 0
DecidesIn rules region from places otherwise = (ask : Ask) → lies region ask ≡ true →
    decided (drop from rules) false ask ≡ decided_by rules places otherwise ask

-- in a region the policy allows what these rules allow
abbrev pub AllowsIn : List Rule → Region → List ℕ → Bool → Type 0
AllowsIn rules region places otherwise = (ask : Ask) → lies region ask ≡ true →
    allows rules ask ≡ decided_by rules places otherwise ask
