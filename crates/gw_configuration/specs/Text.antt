-- The texts of a configuration.
use Rattle.std.specs.Prelude.{ℕ, ◌&&◌, nat_le, if◌then◌else◌, List, length, Option, Some, None}
use Rattle.std.specs.Option.{ok_or}
use Rattle.gw_configuration.specs.declared.fault.ConfigFault.TheVariants.{Range}
use Rattle.gw_configuration.specs.declared.text.TheConstants.{MAX_TEXT}
use Rattle.gw_configuration.specs.Located.{Read}

-- from least to the most octets
abbrev pub text_of_length : ℕ → List ℕ → Option (List ℕ)
text_of_length least text = if nat_le least (length text) && nat_le (length text) MAX_TEXT then Some text else None

abbrev pub text_within : ℕ → List ℕ → Read (List ℕ)
text_within least text = ok_or (text_of_length least text) Range
