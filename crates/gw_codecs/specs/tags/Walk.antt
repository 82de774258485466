-- Walking over a list to its closing tag. This file computes; believe `IsBalanced` and `EndsList`.
use Rattle.std.specs.Prelude.{ℕ, zero, suc, ◌-◌, List, length, take, drop, Option, Some, None, Result, Ok, Err, ◌==◌}
use Rattle.std.specs.Prelude.{nat_lt, if◌then◌else◌}
use Rattle.gw_codecs.specs.declared.tags.tag.Kind.{Kind}
use Rattle.gw_codecs.specs.declared.tags.tag.Kind.TheVariants.{Length, Opening, Closing}
use Rattle.gw_codecs.specs.declared.tags.fault.TagFault.{TagFault}
use Rattle.gw_codecs.specs.tags.Tag.{Tag}
use Rattle.gw_codecs.specs.tags.Reading.{tag_at}
use Rattle.gw_codecs.specs.tags.List.{content_length, deepest}

-- what is at the front, and the octets after it
pub data Element : Type 0 where
  value : List ℕ → Element
  opened : ℕ → List ℕ → Element
  closed : ℕ → List ℕ → Element

-- so many octets are stepped over
abbrev pub stepped : Option ℕ → List ℕ → Option Element
stepped None rest = None
stepped (Some n) rest = if nat_lt (length rest) n then None else Some (value (drop n rest))

abbrev pub element_of : Tag → Kind → List ℕ → Option Element
element_of tag (Length n) rest = stepped (content_length tag (Length n)) rest
element_of tag Opening rest = Some (opened tag.number rest)
element_of tag Closing rest = Some (closed tag.number rest)

abbrev pub element : Result (Tag × List ℕ) TagFault → Option Element
element (Ok x) = element_of x.0 x.0.kind x.1
element (Err fault) = None

abbrev pub element_at : List ℕ → Option Element
element_at octets = element (tag_at octets)

-- The octets from the closing tag of this number on, and those after it. A step takes at least an
-- octet.
unfoldable pub closing_at : ℕ → ℕ → ℕ → List ℕ → Option (List ℕ × List ℕ)
closing_at zero depth number octets = None
closing_at (suc fuel) depth number octets = elim (element_at octets) [
  | None ↦ None
  | Some found ↦ elim found [
    | value rest ↦ closing_at fuel depth number rest
    | opened inner rest ↦ elim depth [
      | zero ↦ None
      | suc less ↦ elim (closing_at fuel less inner rest) [
        | None ↦ None
        | Some x ↦ closing_at fuel (suc less) number x.1
      ]
    ]
    | closed other rest ↦ if other == number then Some (octets, rest) else None
  ]
]

-- the content of the list, and the octets after its closing tag
abbrev pub list_of : List ℕ → Option (List ℕ × List ℕ) → Option (List ℕ × List ℕ)
list_of octets None = None
list_of octets (Some x) = Some (take (length octets - length x.0) octets, x.1)

abbrev pub list_at : ℕ → List ℕ → Option (List ℕ × List ℕ)
list_at number octets = list_of octets (closing_at (length octets) deepest number octets)
