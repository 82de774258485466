-- What holds of each table of names.
use Rattle.std.specs.Prelude.{◌≡◌, ◌≢◌, ◌↔◌, ℕ, nat_le, Bool, false, ◌&&◌, ◌||◌, List, [], ◌∷◌, Some, None, All, IsTrue, ◌==◌}
use Rattle.std.specs.List.{Contains, list_all}
use Rattle.gw_codecs.specs.names.Names.{name_in, number_in}

-- a number has a name exactly if a row gives it that name
abbrev pub NamesRows : List (ℕ × List ℕ) → Type 0
NamesRows table = (number : ℕ) (name : List ℕ) → (name_in table number ≡ Some name) ↔ Contains table (number, name)

-- a name has a number exactly if that number has this name
abbrev pub IsOneToOne : List (ℕ × List ℕ) → Type 0
IsOneToOne table = (number : ℕ) (name : List ℕ) → (number_in table name ≡ Some number) ↔ (name_in table number ≡ Some name)

-- a text has no number exactly if no row has it as its name
abbrev pub KnowsNoOther : List (ℕ × List ℕ) → Type 0
KnowsNoOther table = (text : List ℕ) → (number_in table text ≡ None) ↔ All (λ row. row.1 ≢ text) table

-- a letter
abbrev pub is_letter : ℕ → Bool
is_letter c = (nat_le 65 c && nat_le c 90) || (nat_le 97 c && nat_le c 122)

-- a letter, a digit or a hyphen
abbrev pub is_word_character : ℕ → Bool
is_word_character c = is_letter c || ((nat_le 48 c && nat_le c 57) || c == 45)

-- a letter, and letters, digits and hyphens
abbrev pub is_word : List ℕ → Bool
is_word [] = false
is_word (c ∷ cs) = is_letter c && list_all is_word_character cs

-- each name is such a word
abbrev pub AreWords : List (ℕ × List ℕ) → Type 0
AreWords table = All (λ row. IsTrue (is_word row.1)) table
