-- Items for a field of a rule, as formats 1 and 2 have them.
use Rattle.std.specs.Prelude.{ℕ, Bool, true, false, nat_le, if◌then◌else◌, List, [], ◌∷◌, Option, Some, Ok, Err}
use Rattle.std.specs.List.{list_any}
use Rattle.std.specs.Result.{result_err}
use Rattle.toml.specs.Data.{Data}
use Rattle.gw_addr.specs.Address.{big_endian, octets_of}
use Rattle.gw_addr.specs.Reading.{◌>>=◌}
use Rattle.gw_rules.specs.declared.field.FieldName.{FieldName}
use Rattle.gw_rules.specs.declared.field.FieldName.TheVariants as fields
use Rattle.gw_rules.specs.declared.format.Format.TheVariants as formats
use Rattle.gw_configuration.specs.declared.shape.Naming.{Naming}
use Rattle.gw_configuration.specs.declared.shape.Naming.TheVariants as namings
use Rattle.gw_rules.specs.declared.range.Range.{Range as RuleRange}
use Rattle.gw_rules.specs.Bounds.{bounds}
use Rattle.gw_configuration.specs.declared.fault.ConfigFault.{ConfigFault}
use Rattle.gw_configuration.specs.declared.fault.ConfigFault.TheVariants.{Missing, Kind, Range, TooMany}
use Rattle.gw_configuration.specs.declared.shape.Names.{Names}
use Rattle.gw_configuration.specs.declared.shape.Names.TheVariants.{Services, ObjectTypes, Properties}
use Rattle.gw_configuration.specs.declared.shape.Scalar.{Scalar}
use Rattle.gw_configuration.specs.declared.shape.Scalar.TheVariants.{Number, Operation, Address, Named, Stations, AnyStations}
use Rattle.gw_configuration.specs.Located.{Read}
use Rattle.gw_policy_text.specs.keys.Value.{address_in, deed_in, list_in, number_in}

-- the number by which rules know a value
abbrev pub point_in : Scalar → Data → Read ℕ
point_in (Number low high) value = number_in low high value
point_in (Operation naming) value = deed_in naming value
point_in Address value = address_in value >>= λ address. Ok (big_endian (octets_of address))
point_in _ value = Err Kind

-- the field of which a value may be written by its name
abbrev pub field_named : Names → FieldName
field_named Services = fields.Service
field_named ObjectTypes = fields.ObjectType
field_named Properties = fields.Property

-- the numbers of the operations that can be named there, and behind them those of what an assertion may have in their place
abbrev pub deed_bounds : Naming → RuleRange
deed_bounds (namings.Rule format) = bounds format fields.Operation
deed_bounds namings.BothWays = bounds formats.Three fields.Operation
deed_bounds namings.Assertion = record { low = 1; high = 15 }

-- the numbers by which rules may know it; what is none of these is read to no number
abbrev pub bounds_of : Scalar → RuleRange
bounds_of (Number low high) = record { low = low; high = high }
bounds_of (Operation naming) = deed_bounds naming
bounds_of Address = bounds formats.One fields.SourceKey
bounds_of (Named names) = bounds formats.Three (field_named names)
bounds_of Stations = bounds formats.Three fields.Sender
bounds_of AnyStations = bounds formats.Three fields.SourceKey
bounds_of _ = record { low = 0; high = 0 }

-- which fault it is
abbrev pub is_missing : Option ConfigFault → Bool
is_missing (Some Missing) = true
is_missing _ = false

abbrev pub is_kind : Option ConfigFault → Bool
is_kind (Some Kind) = true
is_kind _ = false

abbrev pub is_range : Option ConfigFault → Bool
is_range (Some Range) = true
is_range _ = false

abbrev pub is_too_many : Option ConfigFault → Bool
is_too_many (Some TooMany) = true
is_too_many _ = false

-- a low end and a high end that isn't below it
abbrev pub ordered : ℕ → ℕ → Read RuleRange
ordered low high = if nat_le low high then Ok (record { low = low; high = high }) else Err Range

abbrev pub between : Scalar → Data → Data → Read RuleRange
between scalar low high = point_in scalar low >>= λ l. point_in scalar high >>= λ h. ordered l h

abbrev pub two_ends : Scalar → List Data → Read RuleRange
two_ends scalar (low ∷ high ∷ []) = between scalar low high
two_ends scalar _ = Err Range

-- a list of two, low and high; a value of a wrong kind in it comes before all else
abbrev pub range_between : Scalar → List Data → Read RuleRange
range_between scalar ends =
    if list_any (λ value. is_kind (result_err (point_in scalar value))) ends then Err Kind else two_ends scalar ends

-- operations have no list of two
abbrev pub range_of_list : Scalar → List Data → Read RuleRange
range_of_list (Operation naming) ends = Err Kind
range_of_list scalar ends = range_between scalar ends

-- an item: one value, or a list of two
abbrev pub range_or : Scalar → Data → Read (List Data) → Read RuleRange
range_or scalar value (Ok ends) = range_of_list scalar ends
range_or scalar value (Err _) = point_in scalar value >>= λ n. Ok (record { low = n; high = n })

abbrev pub range_in : Scalar → Data → Read RuleRange
range_in scalar value = range_or scalar value (list_in value)
