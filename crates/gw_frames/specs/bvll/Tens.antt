-- Octets as entries of ten octets each (Annex J.2.2, J.2.4 and J.2.8).
use Rattle.std.specs.Prelude.{◌≡◌, ℕ, zero, suc, ◌/◌, List, [], ◌∷◌, length, map, take, drop}
use Rattle.gw_addr.specs.Reading.{AreOctets}

-- so many parts of ten octets
abbrev pub parts : ℕ → List ℕ → List (List ℕ)
parts zero octets = []
parts (suc n) octets = take 10 octets ∷ parts n (drop 10 octets)

-- the entries that octets are, one after another; fewer than ten octets at the end are no entry
abbrev pub entries_at : {E : Type 0} → (List ℕ → E) → List ℕ → List E
entries_at entry_of octets = map entry_of (parts (length octets / 10) octets)

-- Ten octets and an entry are one to one.
pub record ReadsTen {E : Type 0}
    (encoding : E → List ℕ) (entry_of : List ℕ → E) (IsEntry : E → Type 0) : Type 0 where
  pub back : (ten : List ℕ) → length ten ≡ 10 → AreOctets ten → encoding (entry_of ten) ≡ ten
  pub fits : (ten : List ℕ) → length ten ≡ 10 → AreOctets ten → IsEntry (entry_of ten)
  pub again : (x : E) → IsEntry x → entry_of (encoding x) ≡ x
  pub len : (x : E) → IsEntry x → length (encoding x) ≡ 10
