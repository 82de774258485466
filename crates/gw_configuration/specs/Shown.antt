-- How a line shows a text: a character that could end the line, control a terminal or turn the direction of writing as `?`.
use Rattle.std.specs.Prelude.{◌≡◌, ℕ, ◌-◌, ◌==◌, Bool, ◌&&◌, ◌||◌, not, nat_le, nat_lt, if◌then◌else◌, List, [], ◌∷◌, drop, zero, suc}

-- no control character of ASCII
abbrev pub is_printed : ℕ → Bool
is_printed octet = nat_lt 31 octet && not (octet == 127)

-- the characters of two octets that aren't shown: the control characters U+0080 to U+009F, and the mark U+061C
abbrev pub is_hidden_pair : ℕ → ℕ → Bool
is_hidden_pair a b = ((a == 194) && (nat_le 128 b && nat_le b 159)) || ((a == 216) && (b == 156))

-- those of three: the marks U+200E and U+200F, the separators and turns U+2028 to U+202E, and U+2066 to U+2069
abbrev pub is_hidden_triple : ℕ → ℕ → ℕ → Bool
is_hidden_triple a b c =
    (a == 226)
    && (((b == 128) && ((nat_le 142 c && nat_le c 143) || (nat_le 168 c && nat_le c 174)))
    || ((b == 129) && (nat_le 166 c && nat_le c 169)))

-- how many octets a character has that isn't shown, if a text begins with one; else 0
abbrev pub hidden_by_three : ℕ → ℕ → List ℕ → ℕ
hidden_by_three a b [] = 0
hidden_by_three a b (c ∷ rest) = if is_hidden_triple a b c then 3 else 0

abbrev pub hidden_by_two : ℕ → List ℕ → ℕ
hidden_by_two a [] = 0
hidden_by_two a (b ∷ rest) = if is_hidden_pair a b then 2 else hidden_by_three a b rest

abbrev pub hidden : List ℕ → ℕ
hidden [] = 0
hidden (a ∷ rest) = if is_printed a then hidden_by_two a rest else 1

-- a text as a line shows it, after so many of its octets
unfoldable pub shown_after : ℕ → List ℕ → List ℕ
shown_after skipped [] = []
shown_after (suc skipped) (octet ∷ rest) = shown_after skipped rest
shown_after zero (octet ∷ rest) =
    (if hidden (octet ∷ rest) == 0 then octet else 63) ∷ shown_after (hidden (octet ∷ rest) - 1) rest

abbrev pub shown : List ℕ → List ℕ
shown text = shown_after 0 text

-- law: no part of what a line shows begins with a character that isn't shown
abbrev pub ShowsNoneHidden : Type 0
ShowsNoneHidden = (text : List ℕ) (place : ℕ) → hidden (drop place (shown text)) ≡ 0

-- law: a text without such a character is shown as it is
abbrev pub IsShownWhole : Type 0
IsShownWhole = (text : List ℕ) → ((place : ℕ) → hidden (drop place text) ≡ 0) → shown text ≡ text
