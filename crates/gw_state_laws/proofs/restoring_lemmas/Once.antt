-- Items of which no two are one each fit those before them.
use Rattle.std.proofs.Common.{◌≡◌, ◌∙◌, sym, ap, refl, ℕ, Bool, true, false, ◌||◌, List, [], ◌∷◌, ◌++◌, map}
use Rattle.std.specs.Prelude.{nat_eq, ⊤}
use Rattle.std.specs.List.{AllByRecursion, list_any}
use Rattle.std.proofs.lemmas.Bool.{or_parts}
use Rattle.gw_configuration.specs.Duplicates.{has_twice}
use Rattle.gw_state_text.specs.Items.{AllFit}

module _ {A : Type 0} (one : A → A → Bool) where
  -- no item is one with a later one
  abbrev pub Once : List A → Type 0
  Once [] = ⊤
  Once (x ∷ xs) = (list_any (one x) xs ≡ false) × Once xs

  -- no item is one with any of those before
  abbrev pub Apart : List A → List A → Type 0
  Apart before xs = AllByRecursion (λ x. list_any (one x) before ≡ false) xs

  pub apart_first : (xs : List A) → Apart [] xs
  apart_first [] = tt
  apart_first (x ∷ xs) = (refl, apart_first xs)

  none_more : (x : A) (before : List A) (y : A) → list_any (one x) before ≡ false → one x y ≡ false
      → list_any (one x) (before ++ y ∷ []) ≡ false
  none_more x [] y none ne = rw ne refl
  none_more x (b ∷ before) y none ne =
      let parts = or_parts (one x b) (list_any (one x) before) none in
      rw (parts.0, none_more x before y parts.1 ne) refl

  apart_more : (symm : (a b : A) → one a b ≡ one b a) (before : List A) (y : A) (xs : List A) → list_any (one y) xs ≡ false
      → Apart before xs → Apart (before ++ y ∷ []) xs
  apart_more symm before y [] none apart = tt
  apart_more symm before y (x ∷ xs) none apart =
      let parts = or_parts (one y x) (list_any (one y) xs) none in
      (none_more x before y apart.0 (symm x y ∙ parts.0), apart_more symm before y xs parts.1 apart.1)

  -- items that are once fit, if each fits of which none before is one with it
  pub all_fit : (symm : (a b : A) → one a b ≡ one b a) (Fits : List A → A → Type 0) (Is : A → Type 0)
      → ((before : List A) (x : A) → Is x → list_any (one x) before ≡ false → Fits before x)
      → (before xs : List A) → AllByRecursion Is xs → Once xs → Apart before xs → AllFit Fits before xs
  unfolding AllFit
  all_fit symm Fits Is fits before [] each once apart = tt
  all_fit symm Fits Is fits before (x ∷ xs) each once apart = (
    fits before x each.0 apart.0,
    all_fit symm Fits Is fits (before ++ x ∷ []) xs each.1 once.1 (apart_more symm before x xs once.0 apart.1),
  )

  -- ---- by a key of each item, of which none comes twice
  module _ (key : A → ℕ) where
    unlike : (a b : A) → (one a b ≡ true → nat_eq (key a) (key b) ≡ true) → nat_eq (key a) (key b) ≡ false → one a b ≡ false
    unlike a b same ne = by (one a b) refl
      where
        by : (t : Bool) → one a b ≡ t → t ≡ false
        by false e = refl
        by true e = sym (same e) ∙ ne

    none_by : ((a b : A) → one a b ≡ true → nat_eq (key a) (key b) ≡ true) → (x : A) (xs : List A)
        → list_any (nat_eq (key x)) (map key xs) ≡ false → list_any (one x) xs ≡ false
    none_by same x [] none = refl
    none_by same x (y ∷ xs) none =
        let parts = or_parts (nat_eq (key x) (key y)) (list_any (nat_eq (key x)) (map key xs)) none in
        rw (unlike x y (same x y) parts.0, none_by same x xs parts.1) refl

    pub once_by : ((a b : A) → one a b ≡ true → nat_eq (key a) (key b) ≡ true) → (xs : List A)
        → has_twice nat_eq (map key xs) ≡ false → Once xs
    once_by same [] none = tt
    once_by same (x ∷ xs) none =
        let parts = or_parts (list_any (nat_eq (key x)) (map key xs)) (has_twice nat_eq (map key xs)) none in
        (none_by same x xs parts.0, once_by same xs parts.1)

-- ---- two facts of each item

pub both : {A : Type 0} (P Q : A → Type 0) (xs : List A) → AllByRecursion P xs → AllByRecursion Q xs → AllByRecursion (λ x. P x × Q x) xs
both P Q [] p q = tt
both P Q (x ∷ xs) p q = ((p.0, q.0), both P Q xs p.1 q.1)

pub one_more : {A : Type 0} (P : A → Type 0) (xs : List A) (x : A) → AllByRecursion P xs → P x → AllByRecursion P (xs ++ x ∷ [])
one_more P [] x each is = (is, tt)
one_more P (y ∷ xs) x each is = (each.0, one_more P xs x each.1 is)
