-- The octets of the elements of an array, one element more at a time.
use Rattle.std.proofs.Common.{◌≡◌, ℕ, zero, suc, ◌<◌, ◌≤◌, ◌+◌, ◌-◌, List, [], ◌∷◌, ◌++◌, length, take, map, ap, subst, ◌∙◌, arith, Some, option_map}
use Rattle.std.specs.Prelude.{slice_get}
use Rattle.std.specs.List.{flat_map}
use Rattle.std.proofs.Math.Seq.{take-suc}
use Rattle.std.proofs.lemmas.List.{append-nil}
use Rattle.std.proofs.lemmas.List.Concat.{flat_map-cons}
use Rattle.std.proofs.lemmas.List.Folds.{length-flat_map-take}
use Rattle.std.proofs.lemmas.Grind.{flat_map-append}
use Rattle.std.proofs.lemmas.Option.{slice_get_within, get_or_from_slice_get, slice_get-map}

module _ {E : Type 0} (encoding : E → List ℕ) (xs : List E) (i : ℕ) (x : E) (is : slice_get xs i ≡ Some x) where
  -- the octets of one element more
  pub encodings_more : flat_map encoding (take (i + 1) xs) ≡ flat_map encoding (take i xs) ++ encoding x
  encodings_more =
      let next : i + 1 ≡ suc i = omega arith in
      let one : flat_map encoding (x ∷ []) ≡ encoding x = flat_map-cons encoding x [] ∙ append-nil (encoding x) in
      ap (λ (n : ℕ). flat_map encoding (take n xs)) next
      ∙ ap (flat_map encoding) (take-suc xs i x (slice_get_within xs i x is) ∙ ap (λ e. take i xs ++ e ∷ []) (get_or_from_slice_get xs i x x is))
      ∙ flat_map-append encoding (take i xs) (x ∷ [])
      ∙ ap (λ (t : List ℕ). flat_map encoding (take i xs) ++ t) one

  -- they are no more than those of all
  pub encodings_within : length (flat_map encoding (take i xs)) + length (encoding x) ≤ length (flat_map encoding xs)
  encodings_within =
      subst (λ e. length (flat_map encoding (take i xs)) + length (encoding e) ≤ length (flat_map encoding xs))
      (get_or_from_slice_get xs i x x is)
      (length-flat_map-take encoding xs i x (slice_get_within xs i x is))

-- an element after the first
pub listed : {A B C : Type 0} (f : B → C) (g : A → B) (x : C) (xs : List A) (place : ℕ) (a : A) → 0 < place → slice_get xs (place - 1) ≡ Some a → slice_get (x ∷ map f (map g xs)) place ≡ Some (f (g a))
listed f g x xs zero a behind is = absurd (omega (arith, behind))
listed f g x xs (suc n) a behind is =
    let e : suc n - 1 ≡ n = omega arith in
    slice_get-map f (map g xs) n ∙ ap (option_map f) (slice_get-map g xs n ∙ ap (option_map g) (subst (λ (k : ℕ). slice_get xs k ≡ Some a) e is))
