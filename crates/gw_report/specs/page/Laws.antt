-- What is true of a text that is put into a page.
use Rattle.std.specs.Prelude.{◌≡◌, ◌⊎◌, ⊤, ℕ, ◌==◌, ◌&&◌, Bool, true, not, nat_le, List, [], ◌∷◌, codes}
use Rattle.std.specs.Cmp.Lexicographic.{pointwise}
use Rattle.std.specs.List.{flat_map, list_any}
use Rattle.std.specs.Prelude.{nat_eq}
use Rattle.gw_report.specs.page.Escape.{escaped}

-- the entities that are written
abbrev pub entities : List (List ℕ)
entities = codes "&amp;" ∷ codes "&lt;" ∷ codes "&gt;" ∷ codes "&quot;" ∷ codes "&#39;" ∷ []

abbrev pub is_entity : List ℕ → Bool
is_entity part = list_any (pointwise nat_eq part) entities

-- an octet that isn't `"`, `&`, `'`, `<`, `>` or a control character
abbrev pub is_plain : ℕ → Bool
is_plain octet =
    nat_le 32 octet
    && not (octet == 34) && not (octet == 38) && not (octet == 39) && not (octet == 60) && not (octet == 62)
    && not (octet == 127)

-- an entity, or such an octet
abbrev pub IsHarmless : List ℕ → Type 0
IsHarmless part = (is_entity part ≡ true) ⊎ ((octet : ℕ) × (part ≡ octet ∷ []) × (is_plain octet ≡ true))

abbrev pub AreHarmless : List (List ℕ) → Type 0
AreHarmless [] = ⊤
AreHarmless (part ∷ parts) = IsHarmless part × AreHarmless parts

-- the text is a row of such parts
pub record IsRow (text : List ℕ) : Type 0 where
  pub parts : List (List ℕ)
  pub row : text ≡ flat_map (λ part. part) parts
  pub harmless : AreHarmless parts

abbrev pub TextsAreHarmless : Type 0
TextsAreHarmless = (text : List ℕ) → IsRow (escaped text)
