-- The names that a ReadPropertyMultiple has for sets of properties (ISO 16484-5, clause 15.7.3.1.2).
use Rattle.std.specs.Prelude.{ℕ, ◌==◌, if◌then◌else◌, Option, Some, None}
use Rattle.gw_objects.specs.declared.property.PropertySet.{PropertySet}
use Rattle.gw_objects.specs.declared.property.PropertySet.TheVariants.{All, Required, Optional}
use Rattle.gw_codecs.specs.services.Multi.{all_properties, required_properties, optional_properties}

-- the set that a property of this number names
abbrev pub set_of : ℕ → Option PropertySet
set_of p =
    if p == all_properties then Some All
    else if p == required_properties then Some Required
    else if p == optional_properties then Some Optional
    else None
