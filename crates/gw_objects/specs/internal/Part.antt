-- What a set has of a list of all properties that begins with the required ones.
use Rattle.std.specs.Prelude.{ℕ, List, take, drop}
use Rattle.gw_objects.specs.declared.property.Property.{Property}
use Rattle.gw_objects.specs.declared.property.PropertySet.{PropertySet}
use Rattle.gw_objects.specs.declared.property.PropertySet.TheVariants.{All, Required, Optional}

abbrev pub part : List Property → ℕ → PropertySet → List Property
part all required All = all
part all required Required = take required all
part all required Optional = drop required all
