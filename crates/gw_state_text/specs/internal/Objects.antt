-- The line of an object, and its slots.
use Rattle.std.specs.Prelude.{◌≡◌, ℕ, List, ◌++◌, length, Option, Some}
use Rattle.gw_objects.specs.declared.value.PropertyValue.{PropertyValue}
use Rattle.gw_codecs.specs.tags.Object.{IsObject, object_view}
use Rattle.gw_state_text.specs.Fit.{FitsKind}
use Rattle.gw_state_text.specs.Reading.{ObjectLine}
use Rattle.gw_state_text.specs.Text.{object_line, slots_text}
use Rattle.gw_state_text.specs.declared.object.Head.{Head}
use Rattle.gw_configuration.specs.Kinds.{kind_numbered}

-- the line of an object
abbrev pub head_text : Head → List ℕ
head_text head = object_line (object_view head.object) head.configured head.default

-- what the line of an object says, without where it is in memory
abbrev pub line_view : Head → ObjectLine
line_view head = record {
  object = object_view head.object;
  kind = head.kind;
  configured = head.configured;
  default = head.default;
}

-- an object of a known type, with values of that type
pub record IsHead (head : Head) : Type 0 where
  pub object : IsObject (object_view head.object)
  pub known : kind_numbered head.object.kind ≡ Some head.kind
  pub configured : FitsKind head.kind head.configured
  pub default : FitsKind head.kind head.default

-- before so many octets the text is that of slots
pub record StopsInSlots (text : List ℕ) (left : ℕ) : Type 0 where
  pub slots : List (Option PropertyValue)
  pub rest : List ℕ
  pub parts : text ≡ slots_text 1 slots ++ rest
  pub is : left ≡ length rest
