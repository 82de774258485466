-- The name that a text may be meant as.
use Rattle.std.specs.Prelude.{ℕ, suc, zero, ◌*◌, Bool, ◌&&◌, nat_eq, nat_le, nat_lt, if◌then◌else◌, List, [], ◌++◌, length, codes}
use Rattle.std.specs.Prelude.{Option, Some, None}
use Rattle.std.specs.Str.{chars}
use Rattle.strsim.specs.Edits.{levenshtein_row}
use Rattle.gw_configuration.specs.declared.shape.Names.{Names}
use Rattle.gw_configuration.specs.declared.shape.Names.TheVariants.{Services, ObjectTypes, Properties}
use Rattle.gw_codecs.specs.names.Names.{object_type_name, property_name, service_name}

-- what has such a name
abbrev pub noun_of : Names → List ℕ
noun_of Services = codes "service"
noun_of ObjectTypes = codes "object type"
noun_of Properties = codes "property"

-- the name of a number
abbrev pub name_of : Names → ℕ → Option (List ℕ)
name_of Services number = service_name number
name_of ObjectTypes number = object_type_name number
name_of Properties number = property_name number

-- how many characters are put in, left out or changed from one text to the other
unfoldable pub edits : List ℕ → List ℕ → ℕ
edits from to = levenshtein_row nat_eq (chars from) (chars to) (length (chars to))

-- a name and its edits, where there are fewer than of the one before
abbrev pub nearer : Option (ℕ × List ℕ) → ℕ → List ℕ → Option (ℕ × List ℕ)
nearer None count name = Some (count, name)
nearer (Some best) count name = if nat_lt count best.0 then Some (count, name) else Some best

abbrev pub nearer_of : List ℕ → Option (ℕ × List ℕ) → Option (List ℕ) → Option (ℕ × List ℕ)
nearer_of text best None = best
nearer_of text best (Some name) = nearer best (edits text name) name

-- of the names of the first so many numbers the first with the fewest edits
unfoldable pub nearest : Names → List ℕ → ℕ → Option (ℕ × List ℕ)
nearest names text zero = None
nearest names text (suc number) = nearer_of text (nearest names text number) (name_of names number)

-- with at most 3 edits, and one for each two octets of the text, it may be meant
abbrev pub is_near : List ℕ → ℕ → Bool
is_near text count = nat_le count 3 && nat_le (2 * count) (length text)

abbrev pub meant_within : Bool → List ℕ → List ℕ
meant_within near name = if near then codes "; did you mean " ++ name else []

abbrev pub meant : List ℕ → Option (ℕ × List ℕ) → List ℕ
meant text None = []
meant text (Some best) = meant_within (is_near text best.0) best.1

-- the numbers of all names are below 1032
abbrev pub near_words : Names → List ℕ → List ℕ
near_words names text = meant text (nearest names text 1032)
