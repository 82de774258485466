-- The JSON value that a `Value` is, and the members of an object.
use Rattle.std.specs.Prelude.{ℕ, List, [], ◌∷◌, decimal, map, string_bytes}
use Rattle.std.specs.Borrow.{Bor}
use Rattle.json.specs.Json.{Json, null, boolean, number, string, array, object, Members, no_members, member}
use Rattle.gw_json.specs.Document.{items_of}
use Rattle.gw_json.specs.declared.value.Value.{Value, fold-Value}
use Rattle.gw_json.specs.declared.value.Value.TheOpen.{Value-F}

-- members whose keys are lent
abbrev pub lent_members : List (Bor (List ℕ) × Json) → Members
lent_members [] = no_members
lent_members (row ∷ rows) = member row.0.now row.1 (lent_members rows)

-- one level, with each value inside already seen as its `Json`
abbrev pub view_step : Value-F Json → Json
view_step Value-F.Null = null
view_step (Value-F.Boolean truth) = boolean truth
view_step (Value-F.Number n) = number (decimal n)
view_step (Value-F.Word word) = string word.now
view_step (Value-F.Text text) = string (string_bytes text)
view_step (Value-F.Array values) = array (items_of values.items)
view_step (Value-F.Object rows) = object (lent_members rows.items)

abbrev pub value_view : Value → Json
value_view = fold-Value Json view_step

abbrev pub values_view : List Value → List Json
values_view values = map value_view values

abbrev pub object_view : List (Bor (List ℕ) × Value) → Members
object_view rows = lent_members (map (λ row. (row.0, value_view row.1)) rows)

-- the keys and values of an object
abbrev pub member_view : Bor (List ℕ) × Value → List ℕ × Json
member_view row = (row.0.now, value_view row.1)

abbrev pub members_view : List (Bor (List ℕ) × Value) → List (List ℕ × Json)
members_view rows = map member_view rows
