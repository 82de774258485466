-- Computes; believe `IsBody` and `HasFault` (Body.antt). How a parameter is read from the front of
-- octets, and the end of a body.
use Rattle.std.specs.Prelude.{ℕ, List, [], ◌∷◌, length, Option, Some, None, Result, Ok, Err, ◌==◌, ◌&&◌, if◌then◌else◌}
use Rattle.std.specs.Prelude.{not}
use Rattle.std.specs.Option.{ok_or}
use Rattle.std.specs.Str.{is_utf8}
use Rattle.gw_addr.specs.Reading.{◌>>=◌}
use Rattle.gw_codecs.specs.declared.tags.fault.ContextFault.{ContextFault}
use Rattle.gw_codecs.specs.declared.tags.fault.ContextFault.TheVariants as tags
use Rattle.gw_codecs.specs.tags.ContextReading.{content_at, opening_at}
use Rattle.gw_codecs.specs.tags.Number.{unsigned_of}
use Rattle.gw_codecs.specs.tags.Object.{Object, object_of}
use Rattle.gw_codecs.specs.tags.Walk.{list_at}
use Rattle.gw_codecs.specs.declared.tags.fault.ValueFault.{ValueFault}
use Rattle.gw_codecs.specs.tags.Value.{Value, unsigned, enumerated, object_id, character_string}
use Rattle.gw_codecs.specs.tags.Reading.{value_at}
use Rattle.gw_codecs.specs.declared.services.fault.BodyFault.{BodyFault}
use Rattle.gw_codecs.specs.declared.services.fault.BodyFault.TheVariants.{InvalidTag, Missing, OutOfRange, TooMany}
use Rattle.gw_codecs.specs.services.Parameter.{in_range}

-- ---- contents

-- four octets are an object
abbrev pub object_in : List ℕ → Result Object BodyFault
object_in own = if length own == 4 then Ok (object_of own) else Err InvalidTag

-- a number in its range
abbrev pub ranged : ℕ → ℕ → ℕ → Result ℕ BodyFault
ranged least most n = if in_range least most n then Ok n else Err OutOfRange

-- one to four octets are a number
abbrev pub number_in : ℕ → ℕ → List ℕ → Result ℕ BodyFault
number_in least most own = ok_or (unsigned_of own) InvalidTag >>= ranged least most

-- a character set and octets, which in set 0 are UTF-8
abbrev pub text_in : List ℕ → Result (ℕ × List ℕ) BodyFault
text_in [] = Err InvalidTag
text_in (charset ∷ own) =
    if charset == 0 && not (is_utf8 own) then Err InvalidTag else Ok (charset, own)

-- ---- contents under a context tag

abbrev pub or_invalid : {A : Type 0} → Result A ContextFault → Result A BodyFault
or_invalid (Ok x) = Ok x
or_invalid (Err fault) = Err InvalidTag

-- the content under the tag, which has to be there
abbrev pub due_at : ℕ → List ℕ → Result (List ℕ × List ℕ) BodyFault
due_at tag [] = Err Missing
due_at tag (octet ∷ octets) = or_invalid (content_at tag (octet ∷ octets))

abbrev pub if_there : Result (List ℕ × List ℕ) ContextFault
    → Result (Option (List ℕ × List ℕ)) BodyFault
if_there (Ok x) = Ok (Some x)
if_there (Err tags.Short) = Err InvalidTag
if_there (Err tags.BadTag) = Err InvalidTag
if_there (Err tags.OtherTag) = Ok None

-- the content under the tag, which may be there
abbrev pub given_at : ℕ → List ℕ → Result (Option (List ℕ × List ℕ)) BodyFault
given_at tag [] = Ok None
given_at tag (octet ∷ octets) = if_there (content_at tag (octet ∷ octets))

-- an object that has to be there
abbrev pub object_at : ℕ → List ℕ → Result (Object × List ℕ) BodyFault
object_at tag octets = do
  content ← due_at tag octets
  object ← object_in content.0
  Ok (object, content.1)

-- a number that has to be there
abbrev pub number_at : ℕ → ℕ → ℕ → List ℕ → Result (ℕ × List ℕ) BodyFault
number_at tag least most octets = do
  content ← due_at tag octets
  number ← number_in least most content.0
  Ok (number, content.1)

-- a character string that has to be there
abbrev pub text_at : ℕ → List ℕ → Result ((ℕ × List ℕ) × List ℕ) BodyFault
text_at tag octets = do
  content ← due_at tag octets
  text ← text_in content.0
  Ok (text, content.1)

abbrev pub number_given : ℕ → ℕ → List ℕ → Option (List ℕ × List ℕ)
    → Result (Option ℕ × List ℕ) BodyFault
number_given least most octets None = Ok (None, octets)
number_given least most octets (Some content) = do
  number ← number_in least most content.0
  Ok (Some number, content.1)

-- a number that may be there
abbrev pub number_maybe_at : ℕ → ℕ → ℕ → List ℕ → Result (Option ℕ × List ℕ) BodyFault
number_maybe_at tag least most octets = do
  content ← given_at tag octets
  number_given least most octets content

abbrev pub object_given : List ℕ → Option (List ℕ × List ℕ)
    → Result (Option Object × List ℕ) BodyFault
object_given octets None = Ok (None, octets)
object_given octets (Some content) = do
  object ← object_in content.0
  Ok (Some object, content.1)

-- an object that may be there
abbrev pub object_maybe_at : ℕ → List ℕ → Result (Option Object × List ℕ) BodyFault
object_maybe_at tag octets = do
  content ← given_at tag octets
  object_given octets content

-- the values between an opening and a closing tag, which have to be there
abbrev pub values_at : ℕ → List ℕ → Result (List ℕ × List ℕ) BodyFault
values_at tag [] = Err Missing
values_at tag (octet ∷ octets) = do
  inner ← or_invalid (opening_at tag (octet ∷ octets))
  ok_or (list_at tag inner) InvalidTag

-- ---- application values

abbrev pub or_invalid_value : {A : Type 0} → Result A ValueFault → Result A BodyFault
or_invalid_value (Ok x) = Ok x
or_invalid_value (Err fault) = Err InvalidTag

abbrev pub object_value : Value → Option Object
object_value (object_id id) = Some id
object_value _ = None

abbrev pub unsigned_value : Value → Option ℕ
unsigned_value (unsigned n) = Some n
unsigned_value _ = None

abbrev pub enumerated_value : Value → Option ℕ
enumerated_value (enumerated n) = Some n
enumerated_value _ = None

abbrev pub text_value : Value → Option (ℕ × List ℕ)
text_value (character_string charset own) = Some (charset, own)
text_value _ = None

-- a value that has to be there
abbrev pub any_value_at : List ℕ → Result (Value × List ℕ) BodyFault
any_value_at [] = Err Missing
any_value_at (octet ∷ octets) = or_invalid_value (value_at (octet ∷ octets))

-- a value of the kind that has to be there
abbrev pub value_of_kind_at : {A : Type 0} → (Value → Option A) → List ℕ
    → Result (A × List ℕ) BodyFault
value_of_kind_at kind octets = do
  value ← any_value_at octets
  own ← ok_or (kind value.0) InvalidTag
  Ok (own, value.1)

-- a number of the kind that has to be there
abbrev pub number_of_kind_at : (Value → Option ℕ) → ℕ → ℕ → List ℕ
    → Result (ℕ × List ℕ) BodyFault
number_of_kind_at kind least most octets = do
  value ← value_of_kind_at kind octets
  number ← ranged least most value.0
  Ok (number, value.1)

-- ---- the end

-- what is read, if nothing follows it
abbrev pub ended : {A : Type 0} → A → List ℕ → Result A BodyFault
ended x [] = Ok x
ended x (octet ∷ octets) = Err TooMany
