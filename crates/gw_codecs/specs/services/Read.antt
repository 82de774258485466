-- ReadProperty (ISO 16484-5, clause 15.5).
use Rattle.std.specs.Prelude.{ℕ, List, [], ◌∷◌, ◌++◌, Option, Some, None, Result}
use Rattle.gw_addr.specs.Reading.{◌>>=◌}
use Rattle.gw_codecs.specs.tags.Context.{in_context}
use Rattle.gw_codecs.specs.tags.Number.{unsigned_encoding}
use Rattle.gw_codecs.specs.tags.Object.{Object, object_view, object_octets}
use Rattle.gw_codecs.specs.declared.services.fault.BodyFault.{BodyFault}
use Rattle.gw_codecs.specs.declared.services.request.ReadReq.{ReadReq}
use Rattle.gw_codecs.specs.services.Parameter.{Content, object, number, an_object, a_number, under}
use Rattle.gw_codecs.specs.services.Body.{Body, done, must, optional, IsBody}
use Rattle.gw_codecs.specs.services.Reading.{object_at, number_at, number_maybe_at, ended}
use Rattle.gw_codecs.specs.services.Limits.{last_property, last_number}

-- [0] object, [1] property, and [2] index where it is given
abbrev pub read_body : Body
read_body =
    must (under 0 an_object)
    (must (under 1 (a_number 0 last_property))
    (optional 2 (a_number 0 last_number)
    done))

-- what is read: a property of an object, or one element of it
pub record Read : Type 0 where
  pub object : Object
  pub property : ℕ
  pub index : Option ℕ

-- a request of the code, without the proof that its numbers fit
abbrev pub read_view : ReadReq → Read
read_view r = record { object = object_view r.object; property = r.property; index = r.index }

-- the index, where it is given
abbrev pub number_held : Option ℕ → List Content
number_held None = []
number_held (Some n) = number n ∷ []

-- what its parameters hold
abbrev pub read_held : Read → List Content
read_held r = object r.object ∷ number r.property ∷ number_held r.index

-- the octets are the body of this request
abbrev pub IsRead : List ℕ → Read → Type 0
IsRead octets r = IsBody read_body octets (read_held r)

-- ---- as it is written

abbrev pub number_part : ℕ → Option ℕ → List ℕ
number_part tag None = []
number_part tag (Some n) = in_context tag (unsigned_encoding n)

abbrev pub read_encoding : Read → List ℕ
read_encoding r =
    in_context 0 (object_octets r.object)
    ++ in_context 1 (unsigned_encoding r.property)
    ++ number_part 2 r.index

-- ---- as it is read; computes, believe `IsRead`

abbrev pub read_at : List ℕ → Result Read BodyFault
read_at octets = do
  id ← object_at 0 octets
  property ← number_at 1 0 last_property id.1
  index ← number_maybe_at 2 0 last_number property.1
  ended (record { object = id.0; property = property.0; index = index.0 }) index.1
