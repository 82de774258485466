-- Rows of bits, one for each rule.
use Rattle.std.specs.Prelude.{◌≡◌, ℕ, ◌+◌, ◌*◌, ◌<◌, Bool, false, if◌then◌else◌, List, Option, slice_get, slice_index}
use Rattle.std.specs.List.{list_all}
use Rattle.gw_rules.specs.Ask.{Ask}
use Rattle.gw_rules.specs.Fields.{value_of}
use Rattle.std.specs.Int.{bit_at}
use Rattle.std.specs.Option.{option_map_or}
use Rattle.gw_rules.specs.Range.{admits}
use Rattle.gw_rules.specs.Rule.{ranges_of}
use Rattle.gw_rules.specs.declared.field.FieldName.{FieldName}
use Rattle.gw_rules.specs.declared.rule.Rule.{Rule}
use Rattle.gw_rule_index.specs.declared.row.TheConstants.{WORDS, WORD_BITS}

-- the bit of a truth
abbrev pub bit : Bool → ℕ
bit b = if b then 1 else 0

-- the ranges that the rule has for the field admit what the ask has there
abbrev pub admits_in : FieldName → Option ℕ → Rule → Bool
admits_in field value rule = admits (ranges_of field rule) value

-- so in each of some fields
abbrev pub admits_all : Ask → List FieldName → Rule → Bool
admits_all ask fields rule = list_all (λ field. admits_in field (value_of field ask) rule) fields

-- there is a rule at the place, and it passes the test
abbrev pub is_marked : (Rule → Bool) → List Rule → ℕ → Bool
is_marked test rules place = option_map_or test (slice_get rules place) false

-- each bit is set exactly if the rule at its place passes the test
abbrev pub Marks : List ℕ → (Rule → Bool) → List Rule → Type 0
Marks words test rules =
    (k b : ℕ) → k < WORDS → b < WORD_BITS →
    bit_at (slice_index words k) b ≡ bit (is_marked test rules (WORD_BITS * k + b))
