-- Which values an object can hold, and when two values are the same.
use Rattle.std.specs.Prelude.{◌≡◌, ◌↔◌, ◌&&◌, nat_eq, nat_le, not, Bool, true, false, if◌then◌else◌, length, IsTrue}
use Rattle.std.specs.Cmp.Lexicographic.{pointwise}
use Rattle.std.specs.Ordering.{int_eq}
use Rattle.gw_objects.specs.declared.configured.Details.{Details}
use Rattle.gw_objects.specs.declared.configured.Details.TheVariants as details
use Rattle.gw_objects.specs.declared.value.PropertyValue.{PropertyValue}
use Rattle.gw_objects.specs.declared.value.PropertyValue.TheVariants.{Binary, State, Text, Integer, PositiveInteger}

-- a value is of the kind of an object and in its range
abbrev pub fits : Details → PropertyValue → Bool
fits (details.BinaryValue active inactive) (Binary value) = true
fits (details.MultiStateValue states) (State number) =
    nat_le 1 number && nat_le number (length states)
fits details.CharacterStringValue (Text octets) = true
fits (details.IntegerValue units) (Integer number) = true
fits (details.PositiveIntegerValue units) (PositiveInteger number) = true
fits _ _ = false

-- two values are of one kind and equal
abbrev pub same_value : PropertyValue → PropertyValue → Bool
same_value (Binary a) (Binary b) = if a then b else not b
same_value (State a) (State b) = nat_eq a b
same_value (Text a) (Text b) = pointwise nat_eq a b
same_value (Integer a) (Integer b) = int_eq a b
same_value (PositiveInteger a) (PositiveInteger b) = nat_eq a b
same_value _ _ = false

-- Two values are the same exactly if they are equal.
abbrev pub SameValuesAreEqual : Type 0
SameValuesAreEqual = (a b : PropertyValue) → IsTrue (same_value a b) ↔ a ≡ b
