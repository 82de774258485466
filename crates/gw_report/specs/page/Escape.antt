-- Foreign texts as HTML and SVG show them.
use Rattle.std.specs.Prelude.{ℕ, ◌==◌, if◌then◌else◌, List, [], ◌∷◌, codes}
use Rattle.std.specs.List.{flat_map}
use Rattle.gw_configuration.specs.Shown.{shown}

-- an entity in the place of an octet that HTML gives a meaning
abbrev pub escaped_octet : ℕ → List ℕ
escaped_octet octet =
    if octet == 38 then codes "&amp;"
    else if octet == 60 then codes "&lt;"
    else if octet == 62 then codes "&gt;"
    else if octet == 34 then codes "&quot;"
    else if octet == 39 then codes "&#39;"
    else octet ∷ []

-- what a line shows of the text, so escaped
abbrev pub escaped : List ℕ → List ℕ
escaped text = flat_map escaped_octet (shown text)
