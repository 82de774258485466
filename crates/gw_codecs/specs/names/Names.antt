-- The name of a number and the number of a name, in each of the standard's tables.
use Rattle.std.specs.Prelude.{ℕ, ◌==◌, nat_eq, List, Option, find}
use Rattle.std.specs.Option.{option_map}
use Rattle.std.specs.Cmp.Lexicographic.{pointwise}
use Rattle.gw_codecs.specs.names.Tables.{object_types, properties, services}

-- the name of a number, if the table has it
abbrev pub name_in : List (ℕ × List ℕ) → ℕ → Option (List ℕ)
name_in table number = option_map (λ row. row.1) (find (λ row. row.0 == number) table)

-- the number of a name, if the table has it
abbrev pub number_in : List (ℕ × List ℕ) → List ℕ → Option ℕ
number_in table name = option_map (λ row. row.0) (find (λ row. pointwise nat_eq row.1 name) table)

-- the name of a type of objects, of a property, of a service or message
abbrev pub object_type_name : ℕ → Option (List ℕ)
object_type_name number = name_in object_types number

abbrev pub property_name : ℕ → Option (List ℕ)
property_name number = name_in properties number

abbrev pub service_name : ℕ → Option (List ℕ)
service_name number = name_in services number

-- the number of a type of objects, of a property, of a service or message
abbrev pub object_type_number : List ℕ → Option ℕ
object_type_number name = number_in object_types name

abbrev pub property_number : List ℕ → Option ℕ
property_number name = number_in properties name

abbrev pub service_number : List ℕ → Option ℕ
service_number name = number_in services name
