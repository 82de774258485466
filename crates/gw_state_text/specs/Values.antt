-- The value of an object, as it is read from a word: the octets of its encoding (clause 20.2) in upper-case
-- hexadecimal digits.
use Rattle.std.specs.Prelude.{ℕ, ◌==◌, ◌&&◌, nat_eq, nat_le, nat_lt, if◌then◌else◌, true, false, List, [], ◌∷◌, length, Result, Ok, Err}
use Rattle.std.specs.Cmp.Lexicographic.{pointwise}
use Rattle.std.specs.Str.{is_utf8}
use Rattle.hex.specs.declared.error.FromHexError.{FromHexError}
use Rattle.hex.specs.Hex.{decode_of}
use Rattle.gw_addr.specs.Reading.{◌>>=◌}
use Rattle.gw_configuration.specs.declared.object.ObjectKind.{ObjectKind}
use Rattle.gw_configuration.specs.declared.object.ObjectKind.TheVariants as kinds
use Rattle.gw_objects.specs.declared.value.PropertyValue.{PropertyValue}
use Rattle.gw_objects.specs.declared.value.PropertyValue.TheVariants.{Binary, State, Text, Integer, PositiveInteger}
use Rattle.gw_codecs.specs.declared.tags.fault.ValueFault.{ValueFault}
use Rattle.gw_codecs.specs.tags.Reading.{value_at}
use Rattle.gw_codecs.specs.tags.Value.{Value, character_string, enumerated, signed, unsigned}
use Rattle.gw_state_text.specs.declared.fault.FaultKind.{FaultKind}
use Rattle.gw_state_text.specs.declared.fault.FaultKind.TheVariants.{Line, Range}
use Rattle.gw_state_text.specs.Text.{value_text}

-- the octets that digits are
abbrev pub decoded : Result (List ℕ) FromHexError → Result (List ℕ) FaultKind
decoded (Ok octets) = Ok octets
decoded (Err fault) = Err Line

-- the octets that a word is in digits, at most 260
unfoldable pub octets_in : List ℕ → Result (List ℕ) FaultKind
octets_in word = if nat_lt 520 (length word) then Err Line else decoded (decode_of word)

-- the text of an object: of character set 0, which is UTF-8, and at most 255 octets
abbrev pub text_of : ℕ → List ℕ → Result PropertyValue FaultKind
text_of charset octets =
    if charset == 0 && (is_utf8 octets && nat_le (length octets) 255) then Ok (Text octets) else Err Range

-- a binary value: 0 is inactive, 1 is active
abbrev pub binary_of : ℕ → Result PropertyValue FaultKind
binary_of number = if number == 0 then Ok (Binary false) else if number == 1 then Ok (Binary true) else Err Range

-- the value of an object of this type, by its kind
unfoldable pub property_of : ObjectKind → Value → Result PropertyValue FaultKind
property_of kinds.BinaryValue (enumerated number) = binary_of number
property_of kinds.MultiStateValue (unsigned number) = Ok (State number)
property_of kinds.CharacterStringValue (character_string charset octets) = text_of charset octets
property_of kinds.IntegerValue (signed number) = Ok (Integer number)
property_of kinds.PositiveIntegerValue (unsigned number) = Ok (PositiveInteger number)
property_of _ _ = Err Range

-- a value, and nothing after it
abbrev pub alone : Result (Value × List ℕ) ValueFault → Result Value FaultKind
alone (Ok read) = if length read.1 == 0 then Ok read.0 else Err Line
alone (Err fault) = Err Line

-- the value of an object of this type that octets encode
unfoldable pub value_of : ObjectKind → List ℕ → Result PropertyValue FaultKind
value_of kind octets = alone (value_at octets) >>= property_of kind

-- a value that is written as this word
abbrev pub spelled : List ℕ → PropertyValue → Result PropertyValue FaultKind
spelled word value = if pointwise nat_eq (value_text value) word then Ok value else Err Line

-- the value of an object of this type that a word is: Line if the word is no value in its only form, Range if it is one
-- of another type
unfoldable pub value_in : ObjectKind → List ℕ → Result PropertyValue FaultKind
value_in kind word = do
  octets ← octets_in word
  value ← value_of kind octets
  spelled word value
