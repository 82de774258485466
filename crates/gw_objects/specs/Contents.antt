-- What a property holds, and its octets.
use Rattle.std.specs.Prelude.{ℕ, ◌-◌, ◌==◌, if◌then◌else◌, List, [], length, slice_get, Option, Some, None, Result, Ok}
use Rattle.std.specs.Prelude.{Err}
use Rattle.std.specs.List.{flat_map}
use Rattle.std.specs.Option.{ok_or, option_map}
use Rattle.gw_codecs.specs.tags.Value.{Value, unsigned, value_encoding}
use Rattle.gw_objects.specs.declared.fault.ReadFault.{ReadFault}
use Rattle.gw_objects.specs.declared.fault.ReadFault.TheVariants.{NotArray, BadIndex}

-- a value, an array of values, or a list without elements
pub data Contents : Type 0 where
  one : Value → Contents
  array : List Value → Contents
  empty_list : Contents

-- an element of an array: 0 is how many there are, and they are counted from 1 (clause 15.5.1.1.3)
abbrev pub element : List Value → ℕ → Option Value
element values index =
    if index == 0 then Some (unsigned (length values)) else slice_get values (index - 1)

-- the octets of a property, or of one element of an array where an index is given
abbrev pub octets_of : Contents → Option ℕ → Result (List ℕ) ReadFault
octets_of (one value) None = Ok (value_encoding value)
octets_of (one value) (Some index) = Err NotArray
octets_of (array values) None = Ok (flat_map value_encoding values)
octets_of (array values) (Some index) =
    ok_or (option_map value_encoding (element values index)) BadIndex
octets_of empty_list None = Ok []
octets_of empty_list (Some index) = Err NotArray
