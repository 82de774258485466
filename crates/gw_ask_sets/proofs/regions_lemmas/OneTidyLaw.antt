-- Two lists of ranges in order, of which none overlaps or touches another, are one if they hold the same numbers.
use Rattle.std.proofs.Common.{◌≡◌, ◌∙◌, sym, ap, refl, subst, ℕ, ◌+◌, ◌≤◌, ◌<◌, Bool, true, false, ◌||◌, List, [], ◌∷◌, arith, inl, inr}
use Rattle.std.specs.Prelude.{◌⊎◌}
use Rattle.std.specs.List.{list_any}
use Rattle.std.proofs.lemmas.Bool.{both_ways, cases_order}
use Rattle.gw_rules.specs.Range.{holds}
use Rattle.gw_rules.specs.declared.range.Range.{Range}
use Rattle.gw_ask_sets.specs.regions.Tidying.{AreApart, TidyIsOne}
use Rattle.gw_ask_sets.proofs.regions_lemmas.RangeLaw.{held, hold, same}

-- what is held isn't below the first of them
not_below : (from n : ℕ) (xs : List Range) → AreApart from xs → list_any (holds n) xs ≡ true → from ≤ n
not_below from n [] is e = absurd cc
not_below from n (x ∷ xs) is e = by (λ later. not_below (x.high + 2) n xs is.2 later) (holds n x) refl e
  where
    by : (list_any (holds n) xs ≡ true → x.high + 2 ≤ n) → (b : Bool) → holds n x ≡ b → (b || list_any (holds n) xs) ≡ true → from ≤ n
    by after true here e = let h = held n x here in let low = h.0 in let u = is.0 in omega arith
    by after false here e = let u = is.0 in let o = is.1 in let later = after e in omega arith

held_first : (n : ℕ) (x : Range) (xs : List Range) → x.low ≤ n → n ≤ x.high → list_any (holds n) (x ∷ xs) ≡ true
held_first n x xs low high = ap (λ b. b || list_any (holds n) xs) (hold n x low high)

or_true : (b : Bool) → (b || true) ≡ true
or_true true = refl
or_true false = refl

same_low : (x y : Range) (xs ys : List Range) → x.low ≤ x.high → AreApart y.low (y ∷ ys)
    → ((n : ℕ) → list_any (holds n) (x ∷ xs) ≡ list_any (holds n) (y ∷ ys)) → y.low ≤ x.low
same_low x y xs ys order is e = not_below y.low x.low (y ∷ ys) is (sym (e x.low) ∙ held_first x.low x xs (omega arith) order)

same_high : (x y : Range) (xs ys : List Range) → x.low ≡ y.low → y.low ≤ y.high → AreApart (y.high + 2) ys
    → ((n : ℕ) → list_any (holds n) (x ∷ xs) ≡ list_any (holds n) (y ∷ ys)) → x.high ≤ y.high
same_high x y xs ys low order is e = by (cases_order x.high y.high)
  where
    nowhere : (b : Bool) → holds (y.high + 1) y ≡ b → (b || list_any (holds (y.high + 1)) ys) ≡ true → x.high ≤ y.high
    nowhere true here there = let h = held (y.high + 1) y here in let high = h.1 in absurd (omega arith)
    nowhere false here there = let later = not_below (y.high + 2) (y.high + 1) ys is there in absurd (omega arith)

    by : (x.high ≡ y.high) ⊎ ((x.high < y.high) ⊎ (y.high < x.high)) → x.high ≤ y.high
    by (inl alike) = omega (arith, alike)
    by (inr (inl less)) = omega arith
    by (inr (inr more)) =
        nowhere (holds (y.high + 1) y) refl
        (sym (e (y.high + 1)) ∙ held_first (y.high + 1) x xs (omega (arith, low, order)) (omega arith))

-- without the range that both begin with
rest_holds : (x : Range) (xs ys : List Range) → AreApart (x.high + 2) xs
    → ((n : ℕ) → list_any (holds n) (x ∷ xs) ≡ list_any (holds n) (x ∷ ys))
    → (n : ℕ) → list_any (holds n) xs ≡ true → list_any (holds n) ys ≡ true
rest_holds x xs ys is e n t = by (holds n x) refl (sym (e n) ∙ ap (λ b. holds n x || b) t ∙ or_true (holds n x))
  where
    by : (b : Bool) → holds n x ≡ b → (b || list_any (holds n) ys) ≡ true → list_any (holds n) ys ≡ true
    by true here there =
        let h = held n x here in let high = h.1 in
        let later = not_below (x.high + 2) n xs is t in absurd (omega arith)
    by false here there = there

one_from : (from : ℕ) (xs ys : List Range) → AreApart from xs → AreApart from ys
    → ((n : ℕ) → list_any (holds n) xs ≡ list_any (holds n) ys) → xs ≡ ys
one_from from [] [] is that e = refl
one_from from [] (y ∷ ys) is that e =
    absurd (both_ways (list_any (holds y.low) (y ∷ ys)) (sym (e y.low)) (held_first y.low y ys (omega arith) that.1))
one_from from (x ∷ xs) [] is that e =
    absurd (both_ways (list_any (holds x.low) (x ∷ xs)) (e x.low) (held_first x.low x xs (omega arith) is.1))
one_from from (x ∷ xs) (y ∷ ys) is that e =
    let back : (n : ℕ) → list_any (holds n) (y ∷ ys) ≡ list_any (holds n) (x ∷ xs) = λ n. sym (e n) in
    let above = same_low x y xs ys is.1 (omega arith, that.1, that.2) e in
    let below = same_low y x ys xs that.1 (omega arith, is.1, is.2) back in
    let low : x.low ≡ y.low = omega arith in
    let most = same_high x y xs ys low that.1 that.2 e in
    let least = same_high y x ys xs (sym low) is.1 is.2 back in
    let high : x.high ≡ y.high = omega arith in
    let one : x ≡ y = ap (λ (n : ℕ). record { low = n; high = x.high }) low ∙ ap (λ (n : ℕ). record { low = y.low; high = n }) high in
    let after : AreApart (x.high + 2) ys = subst (λ h. AreApart (h + 2) ys) (sym high) that.2 in
    let alike : (n : ℕ) → list_any (holds n) (x ∷ xs) ≡ list_any (holds n) (x ∷ ys)
    = λ n. e n ∙ ap (λ (r : Range). list_any (holds n) (r ∷ ys)) (sym one) in
    let rest = one_from (x.high + 2) xs ys is.2 after
    (λ n. same (list_any (holds n) xs) (list_any (holds n) ys) (rest_holds x xs ys is.2 alike n) (rest_holds x ys xs after (λ m. sym (alike m)) n)) in
    ap (λ (r : Range). r ∷ xs) one ∙ ap (λ (l : List Range). y ∷ l) rest

pub tidy_is_one : TidyIsOne
tidy_is_one xs ys is that e = one_from 0 xs ys is that e
