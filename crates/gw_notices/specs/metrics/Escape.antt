-- Values of labels as the format spells them: between quotes, with escapes.
use Rattle.std.specs.Prelude.{ℕ, ◌==◌, Bool, true, false, if◌then◌else◌, List, [], ◌∷◌, codes, Option, Some, None}
use Rattle.std.specs.List.{flat_map}

-- `\\` for a backslash, `\"` for a quote, `\n` for a line feed
abbrev pub escaped_octet : ℕ → List ℕ
escaped_octet octet =
    if octet == 92 then codes "\\\\"
    else if octet == 34 then codes "\\\""
    else if octet == 10 then codes "\\n"
    else octet ∷ []

abbrev pub escaped : List ℕ → List ℕ
escaped value = flat_map escaped_octet value

-- what an octet after a backslash means, if it may be there
abbrev pub escape_meaning : ℕ → Option ℕ
escape_meaning octet =
    if octet == 92 then Some 92
    else if octet == 34 then Some 34
    else if octet == 110 then Some 10
    else None

-- a value that goes on with this octet, and the text after it
abbrev pub with_octet : ℕ → Option (List ℕ × List ℕ) → Option (List ℕ × List ℕ)
with_octet octet None = None
with_octet octet (Some (value, rest)) = Some (octet ∷ value, rest)

-- as a value that begins with this octet, if the octet and the rest are there
abbrev pub with_meaning : Option ℕ → Option (List ℕ × List ℕ) → Option (List ℕ × List ℕ)
with_meaning None read = None
with_meaning (Some octet) read = with_octet octet read

-- How a collector reads a value, from after its first quote on: the value, and the text after its last quote. There is none
-- if the line ends before that, or if a backslash is before another octet. It says whether a backslash came before.
unfoldable pub read_from : (after_backslash : Bool) → List ℕ → Option (List ℕ × List ℕ)
read_from after_backslash [] = None
read_from true (octet ∷ text) = with_meaning (escape_meaning octet) (read_from false text)
read_from false (octet ∷ text) =
    if octet == 34 then Some ([], text)
    else if octet == 92 then read_from true text
    else if octet == 10 then None
    else with_octet octet (read_from false text)

abbrev pub read_value : List ℕ → Option (List ℕ × List ℕ)
read_value text = read_from false text
