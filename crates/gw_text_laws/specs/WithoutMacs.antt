-- Stations as an item names them where no station is written by its octets.
use Rattle.std.specs.Prelude.{◌≡◌, ℕ, Bool, false, ◌||◌, is_some, if◌then◌else◌, List, [], ◌∷◌, Ok, Err}
use Rattle.std.specs.List.{list_any}
use Rattle.std.specs.Option.{option_map_or}
use Rattle.std.specs.Result.{result_err}
use Rattle.toml.specs.Data.{Data, as_str}
use Rattle.gw_addr.specs.Reading.{◌>>=◌}
use Rattle.gw_rules.specs.declared.range.Range.{Range as RuleRange}
use Rattle.gw_configuration.specs.declared.fault.ConfigFault.TheVariants.{Kind, Range}
use Rattle.gw_configuration.specs.Located.{Read}
use Rattle.gw_policy_text.specs.keys.Items.{address_end, addresses_written}
use Rattle.gw_policy_text.specs.keys.Items as now
use Rattle.gw_policy_text.specs.keys.Range.{is_kind, ordered}
use Rattle.gw_policy_text.specs.keys.Value.{list_in, reading}
use Rattle.gw_policy_text.specs.keys.Written.{after_mac}

-- the end of a range: an address, or an IPv4 address without a port, which then has this one
abbrev pub end_in : ℕ → Data → Read ℕ
end_in udp value = reading (address_end udp) (as_str value)

-- a list of two, low and high; a value of a wrong kind in it comes before all else
abbrev pub stations_from : Data → Data → Read RuleRange
stations_from low high = end_in 0 low >>= λ l. end_in 65535 high >>= λ h. ordered l h

abbrev pub station_ends : List Data → Read RuleRange
station_ends (low ∷ high ∷ []) = stations_from low high
station_ends _ = Err Range

abbrev pub stations_between : List Data → Read RuleRange
stations_between ends =
    if list_any (λ value. is_kind (result_err (end_in 0 value))) ends then Err Kind else station_ends ends

abbrev pub stations_or : Data → Read (List Data) → Read RuleRange
stations_or value (Ok ends) = stations_between ends
stations_or value (Err _) = reading addresses_written (as_str value)

abbrev pub stations_in : Data → Read RuleRange
stations_in value = stations_or value (list_in value)

-- a text that begins so
abbrev pub is_mac : Data → Bool
is_mac value = option_map_or (λ text. is_some (after_mac text)) (as_str value) false

abbrev pub has_mac : Read (List Data) → Bool
has_mac (Ok ends) = list_any is_mac ends
has_mac (Err fault) = false

-- an item with one
abbrev pub names_mac : Data → Bool
names_mac value = is_mac value || has_mac (list_in value)

-- law: each other item names the stations that it named
abbrev pub StationsAreAsBefore : Type 0
StationsAreAsBefore = (every : Bool) (value : Data) → names_mac value ≡ false → now.stations_in every value ≡ stations_in value
