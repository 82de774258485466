-- What the index of a field is.
use Rattle.std.specs.Prelude.{◌≡◌, ℕ, ◌^◌, ◌≤◌, ◌<◌, ◌==◌, Bool, false, not, List, [], ◌∷◌, length, Some, None, slice_index, slice_index_or}
use Rattle.std.specs.List.{Contains}
use Rattle.gw_rules.specs.Rule.{ranges_of}
use Rattle.gw_rules.specs.declared.field.FieldName.{FieldName}
use Rattle.gw_rules.specs.declared.rule.Rule.{Rule}
use Rattle.gw_rule_index.specs.declared.field_index.FieldIndex.{FieldIndex}
use Rattle.gw_rule_index.specs.declared.row.Row.{Row}
use Rattle.gw_rule_index.specs.Comparisons.{is_named}
use Rattle.gw_rule_index.specs.internal.Bounds.{AreSearchable, IsPlace}
use Rattle.gw_rule_index.specs.internal.Row.{Marks, admits_in}

-- the row at a place marks the rules that admit a number in the field
abbrev pub MarksAt : List Rule → FieldName → List Row → ℕ → Row → ℕ → Type 0
MarksAt rules field rows place d number =
    Marks (slice_index_or rows place d).words (admits_in field (Some number)) rules

-- the row at each place marks the rules that admit the number there; place 0 is for 0
abbrev pub HasRows : List Rule → FieldName → List ℕ → List Row → Type 0
HasRows rules field numbers rows =
    (place : ℕ) (d : Row) → place < length rows →
    MarksAt rules field rows place d (slice_index (0 ∷ numbers) place)

-- the field has a bound, so some rule names it
abbrev pub has_bounds : FieldIndex → Bool
has_bounds index = not (length index.bounds.items == 0)

-- for each value the row that is found marks exactly the rules that admit it
pub record IsIndexOf (rules : List Rule) (field : FieldName) (index : FieldIndex) : Type 0 where
  pub searchable : AreSearchable index.bounds.items
  pub found : (value place : ℕ) (d : Row) → value < 2 ^ 64 → place ≤ length index.bounds.items →
      IsPlace index.bounds.items value place → MarksAt rules field index.rows.items place d value
  pub absent : Marks index.absent.words (admits_in field None) rules
  pub unnamed : length index.bounds.items ≡ 0 →
      (rule : Rule) → Contains rules rule → ranges_of field rule ≡ []
  pub skipped : is_named rules field ≡ false → length index.bounds.items ≡ 0
