-- Who-Is (ISO 16484-5, clause 16.10).
use Rattle.std.specs.Prelude.{ℕ, List, [], ◌∷◌, ◌++◌, Option, Some, None, Result, Ok}
use Rattle.std.specs.Option.{option_map}
use Rattle.gw_addr.specs.Reading.{◌>>=◌}
use Rattle.gw_codecs.specs.tags.Context.{in_context}
use Rattle.gw_codecs.specs.tags.Number.{unsigned_encoding}
use Rattle.gw_codecs.specs.declared.services.fault.BodyFault.{BodyFault}
use Rattle.gw_codecs.specs.declared.services.discovery.Limits.{Limits as RustLimits}
use Rattle.gw_codecs.specs.declared.services.discovery.WhoIs.{WhoIs as RustWhoIs}
use Rattle.gw_codecs.specs.services.Limits.{last_instance}
use Rattle.gw_codecs.specs.services.Parameter.{Content, number, Shape, a_number, under}
use Rattle.gw_codecs.specs.services.Body.{Body, done, must, may, IsBody}
use Rattle.gw_codecs.specs.services.Reading.{number_at, number_maybe_at, ended}

-- an end of a range of instances
abbrev pub an_instance : Shape
an_instance = a_number 0 last_instance

-- [0] low if limits are given, and then [1] high; and after them the rest
abbrev pub limits_then : Body → Body
limits_then rest = may 0 an_instance (must (under 1 an_instance) rest) rest

abbrev pub who_is_body : Body
who_is_body = limits_then done

-- whose instance is asked for: from the lowest to the highest. Where the first is above the second,
-- nobody's.
pub record Limits : Type 0 where
  pub low : ℕ
  pub high : ℕ

abbrev pub limits_view : RustLimits → Limits
limits_view l = record { low = l.low; high = l.high }

-- without limits everyone is asked
pub record WhoIs : Type 0 where
  pub limits : Option Limits

abbrev pub who_is_view : RustWhoIs → WhoIs
who_is_view w = record { limits = option_map limits_view w.limits }

abbrev pub limits_held : Option Limits → List Content
limits_held None = []
limits_held (Some l) = number l.low ∷ number l.high ∷ []

-- what its parameters hold
abbrev pub who_is_held : WhoIs → List Content
who_is_held w = limits_held w.limits

-- the octets are the body of this request
abbrev pub IsWhoIs : List ℕ → WhoIs → Type 0
IsWhoIs octets w = IsBody who_is_body octets (who_is_held w)

-- ---- as it is written

abbrev pub limits_part : Option Limits → List ℕ
limits_part None = []
limits_part (Some l) =
    in_context 0 (unsigned_encoding l.low) ++ in_context 1 (unsigned_encoding l.high)

abbrev pub who_is_encoding : WhoIs → List ℕ
who_is_encoding w = limits_part w.limits

-- ---- as it is read; computes, believe `IsWhoIs`

abbrev pub high_at : Option ℕ → List ℕ → Result (Option Limits × List ℕ) BodyFault
high_at None octets = Ok (None, octets)
high_at (Some low) octets = do
  high ← number_at 1 0 last_instance octets
  Ok (Some (record { low = low; high = high.0 }), high.1)

abbrev pub limits_at : List ℕ → Result (Option Limits × List ℕ) BodyFault
limits_at octets = do
  low ← number_maybe_at 0 0 last_instance octets
  high_at low.0 low.1

abbrev pub who_is_at : List ℕ → Result WhoIs BodyFault
who_is_at octets = do
  limits ← limits_at octets
  ended (record { limits = limits.0 }) limits.1
