-- I-Have (ISO 16484-5, clause 16.9).
use Rattle.std.specs.Prelude.{ℕ, List, [], ◌∷◌, ◌++◌, Result}
use Rattle.gw_addr.specs.Reading.{◌>>=◌}
use Rattle.gw_codecs.specs.tags.Object.{Object, object_view}
use Rattle.gw_codecs.specs.tags.Value.{object_id, character_string, value_encoding}
use Rattle.gw_codecs.specs.declared.services.fault.BodyFault.{BodyFault}
use Rattle.gw_codecs.specs.declared.services.discovery.IHave.{IHave as RustIHave}
use Rattle.gw_codecs.specs.services.Parameter.{Content, object, text, plain_object, plain_text}
use Rattle.gw_codecs.specs.services.Body.{Body, done, must, IsBody}
use Rattle.gw_codecs.specs.services.Reading.{value_of_kind_at, object_value, text_value, ended}

-- three application values: the device, the object that it has, and the object's name
abbrev pub i_have_body : Body
i_have_body = must plain_object (must plain_object (must plain_text done))

-- the name is a character string with its set
pub record IHave : Type 0 where
  pub device : Object
  pub object : Object
  pub charset : ℕ
  pub name : List ℕ

abbrev pub i_have_view : RustIHave → IHave
i_have_view i = record {
  device = object_view i.device;
  object = object_view i.object;
  charset = i.name.charset;
  name = i.name.octets.now;
}

-- what its parameters hold
abbrev pub i_have_held : IHave → List Content
i_have_held i = object i.device ∷ object i.object ∷ text i.charset i.name ∷ []

-- the octets are the body of this announcement
abbrev pub IsIHave : List ℕ → IHave → Type 0
IsIHave octets i = IsBody i_have_body octets (i_have_held i)

-- ---- as it is written

abbrev pub i_have_encoding : IHave → List ℕ
i_have_encoding i =
    value_encoding (object_id i.device)
    ++ value_encoding (object_id i.object)
    ++ value_encoding (character_string i.charset i.name)

-- ---- as it is read; computes, believe `IsIHave`

abbrev pub i_have_at : List ℕ → Result IHave BodyFault
i_have_at octets = do
  device ← value_of_kind_at object_value octets
  id ← value_of_kind_at object_value device.1
  name ← value_of_kind_at text_value id.1
  ended (record { device = device.0; object = id.0; charset = name.0.0; name = name.0.1 }) name.1
