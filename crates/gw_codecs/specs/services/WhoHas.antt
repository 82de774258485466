-- Who-Has (ISO 16484-5, clause 16.9).
use Rattle.std.specs.Prelude.{ℕ, ◌<◌, ◌^◌, List, [], ◌∷◌, ◌++◌, length, Option, Some, None, Result}
use Rattle.std.specs.Option.{option_map}
use Rattle.gw_addr.specs.Reading.{◌>>=◌}
use Rattle.gw_codecs.specs.tags.Context.{in_context}
use Rattle.gw_codecs.specs.tags.Object.{Object, object_view, object_octets}
use Rattle.gw_codecs.specs.declared.services.fault.BodyFault.{BodyFault}
use Rattle.gw_codecs.specs.declared.services.discovery.Sought.{Sought as RustSought}
use Rattle.gw_codecs.specs.declared.services.discovery.Sought.TheVariants as sought
use Rattle.gw_codecs.specs.declared.services.discovery.WhoHas.{WhoHas as RustWhoHas}
use Rattle.gw_codecs.specs.services.Parameter.{Content, object, text, an_object, a_text, under}
use Rattle.gw_codecs.specs.services.Body.{Body, done, must, may, IsBody}
use Rattle.gw_codecs.specs.services.Reading.{object_maybe_at, text_at, ended}
use Rattle.gw_codecs.specs.services.WhoIs.{Limits, limits_view, limits_then, limits_held, limits_part, limits_at}

-- limits where they are given; then [2] object or [3] name
abbrev pub sought_body : Body
sought_body = may 2 an_object done (must (under 3 a_text) done)

abbrev pub who_has_body : Body
who_has_body = limits_then sought_body

-- what is sought: an object, or the object of a name, a character string with its set
pub data Sought : Type 0 where
  the_object : Object → Sought
  the_name : ℕ → List ℕ → Sought

abbrev pub sought_view : RustSought → Sought
sought_view (sought.Object id) = the_object (object_view id)
sought_view (sought.Name name) = the_name name.charset name.octets.now

pub record WhoHas : Type 0 where
  pub limits : Option Limits
  pub sought : Sought

abbrev pub who_has_view : RustWhoHas → WhoHas
who_has_view w = record {
  limits = option_map limits_view w.limits;
  sought = sought_view w.sought;
}

abbrev pub sought_held : Sought → List Content
sought_held (the_object id) = object id ∷ []
sought_held (the_name charset own) = text charset own ∷ []

-- what its parameters hold
abbrev pub who_has_held : WhoHas → List Content
who_has_held w = limits_held w.limits ++ sought_held w.sought

-- the octets are the body of this request
abbrev pub IsWhoHas : List ℕ → WhoHas → Type 0
IsWhoHas octets w = IsBody who_has_body octets (who_has_held w)

-- ---- as it is written

abbrev pub sought_part : Sought → List ℕ
sought_part (the_object id) = in_context 2 (object_octets id)
sought_part (the_name charset own) = in_context 3 (charset ∷ own)

-- a name can be written: the length of its content fits 32 bits
abbrev pub NameFits : Sought → Type 0
NameFits (the_object id) = Unit {0}
NameFits (the_name charset own) = length (charset ∷ own) < 2 ^ 32

abbrev pub who_has_encoding : WhoHas → List ℕ
who_has_encoding w = limits_part w.limits ++ sought_part w.sought

-- ---- as it is read; computes, believe `IsWhoHas`

abbrev pub asked_for : Option Limits → Sought → WhoHas
asked_for limits sought = record { limits = limits; sought = sought }

abbrev pub object_or_name : Option Limits → Option Object → List ℕ → Result WhoHas BodyFault
object_or_name limits (Some id) octets = ended (asked_for limits (the_object id)) octets
object_or_name limits None octets = do
  name ← text_at 3 octets
  ended (asked_for limits (the_name name.0.0 name.0.1)) name.1

abbrev pub sought_at : Option Limits → List ℕ → Result WhoHas BodyFault
sought_at limits octets = do
  id ← object_maybe_at 2 octets
  object_or_name limits id.0 id.1

abbrev pub who_has_at : List ℕ → Result WhoHas BodyFault
who_has_at octets = do
  limits ← limits_at octets
  sought_at limits.0 limits.1
