-- The name of a rule is a text.
use Rattle.std.proofs.Common.{◌≡◌, ◌<◌, ◌≤◌, ◌&&◌, ◌||◌, ◌==◌, ℕ, List, [], ◌∷◌, arith, inl, inr, length, true, IsTrue}
use Rattle.std.specs.Prelude.{nat_le}
use Rattle.std.specs.List.{list_all}
use Rattle.std.specs.Str.{IsAscii, IsUtf8}
use Rattle.std.proofs.lemmas.Bool.{and_parts, eqb-true, leb-true, or_cases}
use Rattle.std.proofs.lemmas.Str.{IsUtf8-from_ascii}
use Rattle.std.proofs.lemmas.Str.Ascii.{IsAscii-cons, IsAscii-nil}
use Rattle.gw_rules.specs.Name.{is_name, is_name_character}

is_small : (c : ℕ) → is_name_character c ≡ true → c < 128
is_small c is =
    elim (or_cases (nat_le 97 c && nat_le c 122) ((nat_le 48 c && nat_le c 57) || c == 45) is) [
      | inl letter ↦ let most : c ≤ 122 = leb-true c 122 (and_parts (nat_le 97 c) (nat_le c 122) letter).1 in omega arith
      | inr other ↦
          elim (or_cases (nat_le 48 c && nat_le c 57) (c == 45) other) [
            | inl digit ↦ let most : c ≤ 57 = leb-true c 57 (and_parts (nat_le 48 c) (nat_le c 57) digit).1 in omega arith
            | inr dash ↦ let same : c ≡ 45 = eqb-true c 45 dash in omega arith
          ]
    ]

are_ascii : (text : List ℕ) → list_all is_name_character text ≡ true → IsAscii text
are_ascii [] all = IsAscii-nil
are_ascii (c ∷ text) all =
    let parts = and_parts (is_name_character c) (list_all is_name_character text) all in
    IsAscii-cons c text (is_small c parts.0) (are_ascii text parts.1)

pub name_is_text : (text : List ℕ) → IsTrue (is_name text) → IsUtf8 text
name_is_text text is =
    let all = list_all is_name_character text in
    let parts = and_parts (nat_le 1 (length text)) (nat_le (length text) 32 && all) is in
    IsUtf8-from_ascii text (are_ascii text (and_parts (nat_le (length text) 32) all parts.1).1)
