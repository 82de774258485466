-- The types of objects and their numbers (clause 21).
use Rattle.std.specs.Prelude.{ℕ, ◌==◌, if◌then◌else◌, Option, Some, None}
use Rattle.gw_configuration.specs.declared.object.ObjectKind.{ObjectKind}
use Rattle.gw_configuration.specs.declared.object.ObjectKind.TheVariants as kinds
use Rattle.gw_configuration.specs.declared.object.ObjectValue.{ObjectValue}
use Rattle.gw_configuration.specs.declared.object.ObjectValue.TheVariants.{BinaryValue, MultiStateValue}
use Rattle.gw_configuration.specs.declared.object.ObjectValue.TheVariants.{CharacterStringValue, IntegerValue}
use Rattle.gw_configuration.specs.declared.object.ObjectValue.TheVariants.{PositiveIntegerValue}

-- the number of the type of a value object
abbrev pub type_number : ObjectValue → ℕ
type_number (BinaryValue default active inactive) = 5
type_number (MultiStateValue value) = 19
type_number (CharacterStringValue default) = 40
type_number (IntegerValue default units) = 45
type_number (PositiveIntegerValue default units) = 48

-- the type of that number, if it is one of a value object
abbrev pub kind_numbered : ℕ → Option ObjectKind
kind_numbered n =
    if n == 5 then Some kinds.BinaryValue
    else if n == 19 then Some kinds.MultiStateValue
    else if n == 40 then Some kinds.CharacterStringValue
    else if n == 45 then Some kinds.IntegerValue
    else if n == 48 then Some kinds.PositiveIntegerValue
    else None
