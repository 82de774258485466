-- A JSON value (RFC 8259) as a line.
use Rattle.std.specs.Prelude.{◌≡◌, ℕ, List, [], ◌∷◌, ◌++◌, Result, OnOk, OnErr}
use Rattle.json.specs.Json.{Json, object, Items, no_items, item, Members, no_members, member}
use Rattle.json.specs.Print.{print}
use Rattle.json.specs.Tree.{json_tokens}

-- the line of a value: its text, which has no space between its tokens, and a line feed
abbrev pub line_of : Json → List ℕ
line_of value = print (json_tokens value) ++ 10 ∷ []

-- the items of an array
abbrev pub items_of : List Json → Items
items_of [] = no_items
items_of (value ∷ values) = item value (items_of values)

-- an object of these keys and values, in this order
abbrev pub members_of : List (List ℕ × Json) → Members
members_of [] = no_members
members_of (row ∷ rows) = member row.0 row.1 (members_of rows)

abbrev pub object_of : List (List ℕ × Json) → Json
object_of rows = object (members_of rows)

-- the line of a value follows what there was; after an Err there is what there was
pub record IsLinePut {E : Type 0} (value : Json) (old new : List ℕ) (result : Result (Unit {0}) E) : Type 0 where
  pub ok : OnOk result (new ≡ old ++ line_of value)
  pub err : OnErr result (new ≡ old)
