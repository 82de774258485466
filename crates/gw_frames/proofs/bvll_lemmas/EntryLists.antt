-- Lists of table entries and their octets.
use Rattle.std.proofs.Common.{◌≡◌, ℕ, zero, suc, ◌*◌, ◌/◌, ◌%◌, ◌<◌, ◌≤◌, List, [], ◌∷◌, ◌++◌, length, take, drop, map, refl, sym, ap, ap₂, ◌∙◌, arith}
use Rattle.std.specs.List.{flat_map, AllByRecursion}
use Rattle.std.proofs.lemmas.List.{take_at, drop_at, length-append, length-take, length-drop, nil_from_length, take-append-drop, append-nil}
use Rattle.std.proofs.lemmas.Grind.{flat_map-append}
use Rattle.std.proofs.lemmas.List.Concat.{flat_map-cons}
use Rattle.gw_addr.specs.Reading.{AreOctets}
use Rattle.gw_addr.proofs.Reading.{AreOctets-take, AreOctets-drop}
use Rattle.gw_frames.specs.bvll.Tens.{parts, entries_at, ReadsTen}

-- how many there are
pub length-parts : (n : ℕ) (octets : List ℕ) → length (parts n octets) ≡ n
length-parts zero octets = refl
length-parts (suc n) octets = ap suc (length-parts n (drop 10 octets))

-- the first entry, and the others
pub first_part : (octets : List ℕ) → 10 ≤ length octets → parts (length octets / 10) octets ≡ take 10 octets ∷ parts (length (drop 10 octets) / 10) (drop 10 octets)
first_part octets long =
    let one_less : length octets / 10 ≡ suc (length (drop 10 octets) / 10) = omega (arith, length-drop 10 octets) in
    ap (λ (n : ℕ). parts n octets) one_less

pub no_part : (octets : List ℕ) → length octets < 10 → parts (length octets / 10) octets ≡ []
no_part octets short =
    let none : length octets / 10 ≡ 0 = omega arith in
    ap (λ (n : ℕ). parts n octets) none

-- the octets of one entry more
pub encodings-more : {E : Type 0} (encoding : E → List ℕ) (before : List E) (entry : E) → flat_map encoding (before ++ entry ∷ []) ≡ flat_map encoding before ++ encoding entry
encodings-more encoding before entry =
    let one : flat_map encoding (entry ∷ []) ≡ encoding entry = flat_map-cons encoding entry [] ∙ append-nil (encoding entry) in
    flat_map-append encoding before (entry ∷ []) ∙ ap (λ (t : List ℕ). flat_map encoding before ++ t) one

-- one entry more that is valid
pub all_more : {E : Type 0} (P : E → Type 0) (xs : List E) (x : E) → AllByRecursion P xs → P x → AllByRecursion P (xs ++ x ∷ [])
all_more P [] x all next = (next, tt)
all_more P (y ∷ ys) x all next = (all.0, all_more P ys x all.1 next)

module _ {E : Type 0} (encoding : E → List ℕ) (entry_of : List ℕ → E) (IsEntry : E → Type 0) (reads : ReadsTen encoding entry_of IsEntry) where
  parts-back : (n : ℕ) (octets : List ℕ) → AreOctets octets → length octets ≡ 10 * n → flat_map encoding (map entry_of (parts n octets)) ≡ octets
  parts-back zero octets fits len = sym (nil_from_length octets (omega arith))
  parts-back (suc n) octets fits len =
      let ten : length (take 10 octets) ≡ 10 = omega (arith, length-take 10 octets) in
      let first = reads.back (take 10 octets) ten (AreOctets-take 10 octets fits) in
      let others = parts-back n (drop 10 octets) (AreOctets-drop 10 octets fits) (omega (arith, length-drop 10 octets)) in
      flat_map-cons encoding (entry_of (take 10 octets)) (map entry_of (parts n (drop 10 octets))) ∙ ap₂ ◌++◌ first others ∙ take-append-drop 10 octets

  parts-fit : (n : ℕ) (octets : List ℕ) → AreOctets octets → length octets ≡ 10 * n → AllByRecursion IsEntry (map entry_of (parts n octets))
  parts-fit zero octets fits len = tt
  parts-fit (suc n) octets fits len =
      let ten : length (take 10 octets) ≡ 10 = omega (arith, length-take 10 octets) in
      (reads.fits (take 10 octets) ten (AreOctets-take 10 octets fits), parts-fit n (drop 10 octets) (AreOctets-drop 10 octets fits) (omega (arith, length-drop 10 octets)))

  -- how many octets entries have
  pub length-encodings : (xs : List E) → AllByRecursion IsEntry xs → length (flat_map encoding xs) ≡ 10 * length xs
  length-encodings [] fits = refl
  length-encodings (x ∷ xs) fits =
      ap length (flat_map-cons encoding x xs) ∙ length-append (encoding x) (flat_map encoding xs) ∙ omega (arith, reads.len x fits.0, length-encodings xs fits.1)

  parts-again : (xs : List E) → AllByRecursion IsEntry xs → map entry_of (parts (length xs) (flat_map encoding xs)) ≡ xs
  parts-again [] fits = refl
  parts-again (x ∷ xs) fits =
      let len = reads.len x fits.0 in
      let rest = flat_map encoding xs in
      let first : take 10 (encoding x ++ rest) ≡ encoding x = take_at (encoding x) rest 10 len in
      let others : drop 10 (encoding x ++ rest) ≡ rest = drop_at (encoding x) rest 10 len in
      ap (λ (o : List ℕ). map entry_of (parts (suc (length xs)) o)) (flat_map-cons encoding x xs)
      ∙ ap₂ (λ (t : List ℕ) (d : List ℕ). entry_of t ∷ map entry_of (parts (length xs) d)) first others
      ∙ ap₂ ◌∷◌ (reads.again x fits.0) (parts-again xs fits.1)

  -- octets in tens are those of their entries
  pub entries-back : (octets : List ℕ) → AreOctets octets → length octets % 10 ≡ 0 → flat_map encoding (entries_at entry_of octets) ≡ octets
  entries-back octets fits whole = parts-back (length octets / 10) octets fits (omega arith)

  -- the entries of octets in tens are valid
  pub entries-fit : (octets : List ℕ) → AreOctets octets → length octets % 10 ≡ 0 → AllByRecursion IsEntry (entries_at entry_of octets)
  entries-fit octets fits whole = parts-fit (length octets / 10) octets fits (omega arith)

  -- entries are read again from their octets
  pub entries-again : (xs : List E) → AllByRecursion IsEntry xs → entries_at entry_of (flat_map encoding xs) ≡ xs
  entries-again xs fits =
      let count : length (flat_map encoding xs) / 10 ≡ length xs = omega (arith, length-encodings xs fits) in
      ap (λ (n : ℕ). map entry_of (parts n (flat_map encoding xs))) count ∙ parts-again xs fits

  pub entries-whole : (octets : List ℕ) (xs : List E) → AllByRecursion IsEntry xs → octets ≡ flat_map encoding xs → length octets % 10 ≡ 0
  entries-whole octets xs fits encoded = omega (arith, ap length encoded, length-encodings xs fits)

  pub entries-only : (octets : List ℕ) (xs : List E) → AllByRecursion IsEntry xs → octets ≡ flat_map encoding xs → entries_at entry_of octets ≡ xs
  entries-only octets xs fits encoded = ap (entries_at entry_of) encoded ∙ entries-again xs fits
