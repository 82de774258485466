-- The octets of an answer, which are kept while its client takes them.
use Rattle.std.specs.Prelude.{ℕ, ◌-◌, nat_le, if◌then◌else◌, List, ◌++◌, length, Option, Some, None}
use Rattle.gw_codecs.specs.apdu.Answers.{abort}
use Rattle.gw_codecs.specs.apdu.Reasons.{segmentation_not_supported}
use Rattle.gw_device.specs.Response.{with_room}

-- how many more there may be, and the octets; none where there were too many
pub record LimitedState : Type 0 where
  pub left : ℕ
  pub octets : Option (List ℕ)

-- more octets after these, if so many are left
abbrev pub followed : ℕ → Option (List ℕ) → List ℕ → LimitedState
followed left None more = record { left = left; octets = None }
followed left (Some octets) more =
    if nat_le (length more) left
    then record { left = left - length more; octets = Some (octets ++ more) }
    else record { left = 0; octets = None }

abbrev pub extended : LimitedState → List ℕ → LimitedState
extended limited more = followed limited.left limited.octets more

-- the octets, or an Abort in the place of too many
abbrev pub or_abort : ℕ → Option (List ℕ) → List ℕ
or_abort invoke None = with_room (abort invoke segmentation_not_supported)
or_abort invoke (Some octets) = octets
