-- WriteProperty (ISO 16484-5, clause 15.9).
use Rattle.std.specs.Prelude.{ℕ, List, ◌∷◌, ◌++◌, Option, Result}
use Rattle.gw_addr.specs.Reading.{◌>>=◌}
use Rattle.gw_codecs.specs.declared.tags.tag.Kind.TheVariants.{Opening, Closing}
use Rattle.gw_codecs.specs.tags.Tag.{canonical}
use Rattle.gw_codecs.specs.tags.List.{context}
use Rattle.gw_codecs.specs.tags.Object.{Object, object_view}
use Rattle.gw_codecs.specs.declared.services.fault.BodyFault.{BodyFault}
use Rattle.gw_codecs.specs.declared.services.request.WriteReq.{WriteReq}
use Rattle.gw_codecs.specs.services.Limits.{last_property, last_number, last_priority}
use Rattle.gw_codecs.specs.services.Parameter.{Content, object, number, values, an_object, a_number, under, between}
use Rattle.gw_codecs.specs.services.Body.{Body, done, must, optional, IsBody}
use Rattle.gw_codecs.specs.services.Reading.{object_at, number_at, number_maybe_at, values_at, ended}
use Rattle.gw_codecs.specs.services.Read.{Read, number_held, number_part, read_encoding}

-- [0] object, [1] property, [2] index where it is given, the value between [3] and [3], and [4]
-- priority where it is given
abbrev pub write_body : Body
write_body =
    must (under 0 an_object)
    (must (under 1 (a_number 0 last_property))
    (optional 2 (a_number 0 last_number)
    (must (between 3)
    (optional 4 (a_number 1 last_priority)
    done))))

-- what is written where: the value is the octets of any values, the priority one of 1 to 16
pub record Write : Type 0 where
  pub object : Object
  pub property : ℕ
  pub index : Option ℕ
  pub value : List ℕ
  pub priority : Option ℕ

-- a request of the code, without where its value lies in memory
abbrev pub write_view : WriteReq → Write
write_view w = record {
  object = object_view w.object;
  property = w.property;
  index = w.index;
  value = w.value.now;
  priority = w.priority;
}

-- what its parameters hold
abbrev pub write_held : Write → List Content
write_held w =
    object w.object ∷ number w.property
    ∷ (number_held w.index ++ values w.value ∷ number_held w.priority)

-- the octets are the body of this request
abbrev pub IsWrite : List ℕ → Write → Type 0
IsWrite octets w = IsBody write_body octets (write_held w)

-- ---- as it is written

-- values between an opening and a closing tag of this number
abbrev pub values_part : ℕ → List ℕ → List ℕ
values_part tag own = canonical (context tag Opening) ++ own ++ canonical (context tag Closing)

-- what the value is for, as ReadProperty names it
abbrev pub target_of : Write → Read
target_of w = record { object = w.object; property = w.property; index = w.index }

abbrev pub write_encoding : Write → List ℕ
write_encoding w =
    read_encoding (target_of w) ++ values_part 3 w.value ++ number_part 4 w.priority

-- ---- as it is read; computes, believe `IsWrite`

-- the priority, and the end
abbrev pub priority_at : Read → List ℕ → List ℕ → Result Write BodyFault
priority_at target value octets = do
  priority ← number_maybe_at 4 1 last_priority octets
  ended (record {
    object = target.object;
    property = target.property;
    index = target.index;
    value = value;
    priority = priority.0;
  }) priority.1

abbrev pub write_at : List ℕ → Result Write BodyFault
write_at octets = do
  id ← object_at 0 octets
  property ← number_at 1 0 last_property id.1
  index ← number_maybe_at 2 0 last_number property.1
  value ← values_at 3 index.1
  priority_at (record { object = id.0; property = property.0; index = index.0 }) value.0 value.1
