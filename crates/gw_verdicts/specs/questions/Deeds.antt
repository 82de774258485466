-- What the words of a deed mean.
use Rattle.std.specs.Prelude.{◌≡◌, ℕ, ◌≤◌, ◌&&◌, [], ◌∷◌, nat_lt, Option, Some, None, Result, Ok, Err, if◌then◌else◌}
use Rattle.std.specs.Option.{option_map}
use Rattle.std.specs.Str.Parse.{IsNumeral, digits_value, without_leading_plus}
use Rattle.gw_codecs.specs.names.Names.{object_type_number, property_number, service_number}
use Rattle.gw_codecs.specs.services.Read.{Read, read_view}
use Rattle.gw_codecs.specs.services.Write.{Write, write_view}
use Rattle.gw_verdicts.specs.declared.questions.deed.Deed.{Deed}
use Rattle.gw_verdicts.specs.declared.questions.deed.Deed.TheVariants as deed
use Rattle.gw_verdicts.specs.declared.questions.deed.DeedInWords.{DeedInWords}
use Rattle.gw_verdicts.specs.declared.questions.deed.DeedInWords.TheVariants as said
use Rattle.gw_verdicts.specs.declared.questions.fault.Unasked.{Unasked}
use Rattle.gw_verdicts.specs.declared.questions.fault.Unasked.TheVariants as unasked
use Rattle.gw_verdicts.specs.questions.Read.{IsNumberIn, Text, parted}

-- what a station asks for, in words: to read this; to write it, at a priority if one is given; a confirmed service
pub data DeedText : Type 0 where
  to_read : (object : Text) → DeedText
  to_write : (object : Text) (priority : Option Text) → DeedText
  to_serve : (service : Text) → DeedText

abbrev pub deed_text : DeedInWords → DeedText
deed_text (said.Read object) = to_read object.now
deed_text (said.Write object priority) = to_write object.now (option_map (λ text. text.now) priority)
deed_text (said.Serve service) = to_serve service.now

-- a deed without the proof that its numbers fit
pub data Done : Type 0 where
  reads : Read → Done
  writes : Write → Done
  is_served : (service : ℕ) → Done

abbrev pub deed_view : Deed → Done
deed_view (deed.Read read) = reads (read_view read)
deed_view (deed.Write write) = writes (write_view write)
deed_view (deed.Serve service) = is_served service

-- the same where there may be none
abbrev pub result_of : {A B E : Type 0} → (A → B) → Result A E → Result B E
result_of f (Ok a) = Ok (f a)
result_of f (Err e) = Err e

-- ---- a property of an object

-- the number of a name, or else the one that a text is in decimal
abbrev pub IsNumberOr : Option ℕ → Text → Option ℕ → Type 0
IsNumberOr (Some named) text number = number ≡ Some named
IsNumberOr None text number = IsNumberIn 64 text number

-- a type of 10 bits, an instance of 22 and a property of 22 (clause 20.2.14)
abbrev pub read_named : (kind instance property : ℕ) → Option Read
read_named kind instance property =
    if nat_lt kind 1024 && (nat_lt instance 4194304 && nat_lt property 4194304)
    then Some (record { object = record { kind = kind; instance = instance }; property = property; index = None }) else None

abbrev pub read_by : (kind instance property : Option ℕ) → Option Read
read_by (Some kind) (Some instance) (Some property) = read_named kind instance property
read_by _ _ _ = None

-- after a type: `INSTANCE,PROPERTY`, or `INSTANCE` alone, of which it is present-value, 85 (clause 21)
abbrev pub IsPropertyOf : (kind : Option ℕ) → Option (Text × Text) → Text → Option Read → Type 0
IsPropertyOf kind (Some parts) text read =
    (instance : Option ℕ) × IsNumberIn 64 parts.0 instance
    × (property : Option ℕ) × IsNumberOr (property_number parts.1) parts.1 property
    × (read ≡ read_by kind instance property)
IsPropertyOf kind None text read =
    (instance : Option ℕ) × IsNumberIn 64 text instance × (read ≡ read_by kind instance (Some 85))

-- `TYPE,INSTANCE,PROPERTY`, or without a property
abbrev pub IsReadIn : Option (Text × Text) → Option Read → Type 0
IsReadIn None read = read ≡ None
IsReadIn (Some parts) read =
    (kind : Option ℕ) × IsNumberOr (object_type_number parts.0) parts.0 kind
    × IsPropertyOf kind (parted 44 parts.1) parts.1 read

-- ---- a deed

-- the priority that a text is in decimal, 1 to 16 (clause 19.2)
abbrev pub IsPriorityIn : Text → Option ℕ → Type 0
IsPriorityIn text (Some n) =
    IsNumeral 10 (without_leading_plus text) × (n ≡ digits_value 10 (without_leading_plus text)) × (1 ≤ n) × (n ≤ 16)
IsPriorityIn text None =
    ¬ (IsNumeral 10 (without_leading_plus text)
    × (1 ≤ digits_value 10 (without_leading_plus text)) × (digits_value 10 (without_leading_plus text) ≤ 16))

-- a write of Null (clause 20.2.2)
abbrev pub written : Read → Option ℕ → Done
written read priority = writes (record {
  object = read.object;
  property = read.property;
  index = read.index;
  value = 0x00 ∷ [];
  priority = priority;
})

abbrev pub deed_to_read : Option Read → Result Done Unasked
deed_to_read (Some read) = Ok (reads read)
deed_to_read None = Err unasked.Read

abbrev pub written_at : Read → Option ℕ → Result Done Unasked
written_at read (Some priority) = Ok (written read (Some priority))
written_at read None = Err unasked.Write

abbrev pub IsDeedToWrite : Option Read → (priority : Option Text) → Result Done Unasked → Type 0
IsDeedToWrite None priority done = done ≡ Err unasked.Write
IsDeedToWrite (Some read) None done = done ≡ Ok (written read None)
IsDeedToWrite (Some read) (Some text) done = (priority : Option ℕ) × IsPriorityIn text priority × (done ≡ written_at read priority)

-- a confirmed service has a number of 8 bits (clause 20.1.2)
abbrev pub deed_of_service : Option ℕ → Result Done Unasked
deed_of_service (Some number) = if nat_lt number 256 then Ok (is_served number) else Err unasked.Service
deed_of_service None = Err unasked.Service

-- what words ask for
abbrev pub IsDeedOf : DeedText → Result Done Unasked → Type 0
IsDeedOf (to_read object) done = (read : Option Read) × IsReadIn (parted 44 object) read × (done ≡ deed_to_read read)
IsDeedOf (to_write object priority) done =
    (read : Option Read) × IsReadIn (parted 44 object) read × IsDeedToWrite read priority done
IsDeedOf (to_serve service) done =
    (number : Option ℕ) × IsNumberOr (service_number service) service number × (done ≡ deed_of_service number)
