-- Elements that appear twice, as a loop finds them that keeps a sorted set of those before.
use Rattle.std.proofs.Common.{◌≡◌, ℕ, zero, suc, ◌+◌, ◌<◌, ◌≤◌, ◌||◌, Bool, true, false, cond, not, nat_lt, List, [], ◌∷◌, ◌++◌, length, get_or, take, drop, map, Some, None, refl, sym, ap, ◌∙◌, append_assoc, add-one, drop-cons, arith, nat_eq, Bor}
use Rattle.std.specs.Prelude.{if◌then◌else◌, is_some}
use Rattle.std.proofs.lemmas.List.{append-nil}
use Rattle.std.specs.Cmp.Lexicographic.{bytes_decides, pointwise, slice_cmp}
use Rattle.std.specs.List.{list_any}
use Rattle.std.specs.BTreeMap.{is_at}
use Rattle.std.specs.BTreeSet.{insert_key}
use Rattle.std.proofs.lemmas.Map.Text.{is_eq-slice_cmp}
use Rattle.std.specs.Ordering.{match_ordering, nat_cmp, is_eq}
use Rattle.std.specs.declared.cmp.Ordering.{Ordering}
use Rattle.std.specs.declared.cmp.Ordering.TheVariants.{Less, Equal, Greater}
use Rattle.std.proofs.lemmas.Bool.{eqb-true, eq-eqb, ltb-true}
use Rattle.std.proofs.lemmas.List.{take_more}
use Rattle.std.proofs.lemmas.List.Folds.{list_any-append}
use Rattle.gw_configuration.specs.Duplicates.{has_twice, second, second_behind}

shuffle : (a s h l : Bool) → ((a || (s || false)) || (h || l)) ≡ ((a || h) || (s || l))
shuffle true s h l = refl
shuffle false true true l = refl
shuffle false true false l = refl
shuffle false false h l = refl

swap : (a b c : Bool) → (a || (b || c)) ≡ (b || (a || c))
swap true true c = refl
swap true false c = refl
swap false b c = refl

or_true : (b : Bool) → (b || true) ≡ true
or_true true = refl
or_true false = refl

both : (a b : Bool) → (a ≡ true → b ≡ true) → (b ≡ true → a ≡ true) → a ≡ b
both true b there back = sym (there refl)
both false true there back = back refl
both false false there back = refl

pub same_numbers : (m n : ℕ) → nat_eq m n ≡ nat_eq n m
same_numbers m n = both (nat_eq m n) (nat_eq n m) (λ e. eq-eqb n m (sym (eqb-true m n e))) (λ e. eq-eqb m n (sym (eqb-true n m e)))

pub same_texts : (s t : List ℕ) → pointwise nat_eq s t ≡ pointwise nat_eq t s
same_texts s t =
    both (pointwise nat_eq s t) (pointwise nat_eq t s) (λ e. (bytes_decides t s).1 (sym ((bytes_decides s t).0 e))) (λ e. (bytes_decides s t).1 (sym ((bytes_decides t s).0 e)))

module _ {A : Type 0} (same : A → A → Bool) (symmetric : (x y : A) → same x y ≡ same y x) where
  twice_push : (xs : List A) (x : A) → has_twice same (xs ++ x ∷ []) ≡ (has_twice same xs || list_any (same x) xs)
  twice_push [] x = refl
  twice_push (y ∷ ys) x =
      rw (list_any-append (same y) ys (x ∷ []), twice_push ys x, symmetric y x) (shuffle (list_any (same y) ys) (same x y) (has_twice same ys) (list_any (same x) ys))

  twice_more : (xs ys : List A) → has_twice same xs ≡ true → has_twice same (xs ++ ys) ≡ true
  twice_more [] ys e = absurd cc
  twice_more (x ∷ xs) ys e = rw (list_any-append (same x) xs ys) (on (list_any (same x) xs) (has_twice same xs) (twice_more xs ys) e)
    where
      on : (a h : Bool) → (h ≡ true → has_twice same (xs ++ ys) ≡ true) → (a || h) ≡ true → ((a || list_any (same x) ys) || has_twice same (xs ++ ys)) ≡ true
      on true h later e = refl
      on false h later e = rw (later e) (or_true (list_any (same x) ys))

  -- the front up to an element, and the element
  taken : (xs : List A) (k : ℕ) (x d : A) → k < length xs → x ≡ get_or xs k d → take (k + 1) xs ≡ take k xs ++ x ∷ []
  taken xs k x d h e = take_more xs k d h ∙ ap (λ y. take k xs ++ y ∷ []) (sym e)

  -- one element more is among those before
  any_taken : (test : A → Bool) (xs : List A) (k : ℕ) (x d : A) → k < length xs → x ≡ get_or xs k d → list_any test (take (k + 1) xs) ≡ (test x || list_any test (take k xs))
  any_taken test xs k x d h e = ap (list_any test) (taken xs k x d h e) ∙ list_any-append test (take k xs) (x ∷ []) ∙ last (list_any test (take k xs)) (test x)
    where
      last : (a b : Bool) → (a || (b || false)) ≡ (b || a)
      last true true = refl
      last true false = refl
      last false true = refl
      last false false = refl

  -- after elements without a repetition, the search finds one exactly if the whole list has one
  behind : (before : List A) (n : ℕ) (xs : List A) → has_twice same before ≡ false → is_some (second_behind same before n xs) ≡ has_twice same (before ++ xs)
  behind before n [] none = sym (ap (has_twice same) (append-nil before) ∙ none)
  behind before n (x ∷ xs) none = step (list_any (same x) before) refl (behind (before ++ x ∷ []) (n + 1) xs)
    where
      pushed : (before ++ x ∷ []) ++ xs ≡ before ++ x ∷ xs
      pushed = simp append_assoc

      step : (b : Bool) → list_any (same x) before ≡ b → (has_twice same (before ++ x ∷ []) ≡ false → is_some (second_behind same (before ++ x ∷ []) (n + 1) xs) ≡ has_twice same ((before ++ x ∷ []) ++ xs))
          → is_some (if b then Some n else second_behind same (before ++ x ∷ []) (n + 1) xs) ≡ has_twice same (before ++ x ∷ xs)
      step true e later =
          sym (ap (has_twice same) (sym pushed) ∙ twice_more (before ++ x ∷ []) xs (twice_push before x ∙ ap (λ b. has_twice same before || b) e ∙ or_true (has_twice same before)))
      step false e later = later (twice_push before x ∙ rw (none, e) refl) ∙ ap (has_twice same) pushed

  pub second_twice : (xs : List A) → is_some (second same xs) ≡ has_twice same xs
  second_twice xs = behind [] 0 xs refl

-- one key more in a sorted set
any_inserted : {K : Type 0} (cmp : K → K → Ordering) (test : K → Bool) → ((k x : K) → cmp k x ≡ Equal → test k ≡ test x) → (ks : List K) (k : K) → list_any test (insert_key cmp ks k) ≡ (test k || list_any test ks)
any_inserted cmp test respects [] k = refl
any_inserted cmp test respects (x ∷ xs) k = on (any_inserted cmp test respects xs k) (cmp k x) refl
  where
    twice : (a b c : Bool) → a ≡ b → (b || c) ≡ (a || (b || c))
    twice true true c e = refl
    twice true false c e = absurd cc
    twice false b c e = refl

    on : (list_any test (insert_key cmp xs k) ≡ (test k || list_any test xs)) → (o : Ordering) → cmp k x ≡ o → list_any test (match_ordering o (k ∷ x ∷ xs) (x ∷ xs) (x ∷ insert_key cmp xs k)) ≡ (test k || (test x || list_any test xs))
    on later Less e = refl
    on later Equal e = twice (test k) (test x) (list_any test xs) (respects k x e)
    on later Greater e = ap (λ b. test x || b) later ∙ swap (test x) (test k) (list_any test xs)

any_same : {K : Type 0} (p q : K → Bool) → ((x : K) → p x ≡ q x) → (ks : List K) → list_any p ks ≡ list_any q ks
any_same p q h [] = refl
any_same p q h (k ∷ ks) = rw (h k, any_same p q h ks) refl

not_false : (b : Bool) → not b ≡ false → b ≡ true
not_false true e = refl
not_false false e = absurd cc

not_true : (b : Bool) → not b ≡ true → b ≡ false
not_true true e = absurd cc
not_true false e = refl

-- a loop that puts keys into a sorted set, one for each element of a list
module _ {K A : Type 0} (f : K → A) (same : A → A → Bool) (symmetric : (x y : A) → same x y ≡ same y x) (exact : (x y : A) → same x y ≡ true → x ≡ y)
    (cmp : K → K → Ordering) (tie : (k l : K) → is_eq (cmp k l) ≡ same (f k) (f l)) where
  -- the set has the elements before a place
  abbrev pub Has : List K → List A → ℕ → Type 0
  Has keys xs k = (q : A) → list_any (λ y. same q (f y)) keys ≡ list_any (same q) (take k xs)

  among : (keys : List K) (xs : List A) (k : ℕ) (x : K) → Has keys xs k → list_any (is_at (cmp x)) keys ≡ list_any (same (f x)) (take k xs)
  among keys xs k x has = any_same (is_at (cmp x)) (λ y. same (f x) (f y)) (tie x) keys ∙ has (f x)

  -- what is found from a place on is what is found in the whole
  abbrev pub IsSought : List A → ℕ → Type 0
  IsSought xs k = second_behind same (take k xs) k (drop k xs) ≡ second same xs

  unrolled : (xs : List A) (k : ℕ) (x d : A) → k < length xs → x ≡ get_or xs k d
      → second_behind same (take k xs) k (drop k xs) ≡ (if list_any (same x) (take k xs) then Some k else second_behind same (take (k + 1) xs) (k + 1) (drop (k + 1) xs))
  unrolled xs k x d h e =
      let cells : drop k xs ≡ x ∷ drop (k + 1) xs = drop-cons xs k d h ∙ rw (add-one, ← e) refl in
      ap (second_behind same (take k xs) k) cells
      ∙ ap (λ front. if list_any (same x) (take k xs) then Some k else second_behind same front (k + 1) (drop (k + 1) xs)) (sym (taken same symmetric xs k x d h e))

  pub is_second : (keys : List K) (xs : List A) (k : ℕ) (x : K) (d : A) (added : Bool) → k < length xs → f x ≡ get_or xs k d → Has keys xs k → added ≡ not (list_any (is_at (cmp x)) keys) → added ≡ false → IsSought xs k → Some k ≡ second same xs
  is_second keys xs k x d added h e has a off sought =
      let before : list_any (same (f x)) (take k xs) ≡ true = sym (among keys xs k x has) ∙ not_false (list_any (is_at (cmp x)) keys) (sym a ∙ off) in
      sym (ap (λ b. if b then Some k else second_behind same (take (k + 1) xs) (k + 1) (drop (k + 1) xs)) before) ∙ sym (unrolled xs k (f x) d h e) ∙ sought

  pub still_sought : (keys : List K) (xs : List A) (k : ℕ) (x : K) (d : A) (added : Bool) → k < length xs → f x ≡ get_or xs k d → Has keys xs k → added ≡ not (list_any (is_at (cmp x)) keys) → added ≡ true → IsSought xs k → IsSought xs (k + 1)
  still_sought keys xs k x d added h e has a on sought =
      let before : list_any (same (f x)) (take k xs) ≡ false = sym (among keys xs k x has) ∙ not_true (list_any (is_at (cmp x)) keys) (sym a ∙ on) in
      sym (ap (λ b. if b then Some k else second_behind same (take (k + 1) xs) (k + 1) (drop (k + 1) xs)) before) ∙ sym (unrolled xs k (f x) d h e) ∙ sought

  pub none_sought : (xs : List A) (k : ℕ) → length xs ≤ k → IsSought xs k → None ≡ second same xs
  none_sought xs k h sought = sym (ap (second_behind same (take k xs) k) (drop_all xs k h)) ∙ sought
    where
      drop_all : (vs : List A) (n : ℕ) → length vs ≤ n → drop n vs ≡ []
      drop_all [] n h = nil n
        where
          nil : (m : ℕ) → ◌≡◌ {A = List A} (drop m []) []
          nil zero = refl
          nil (suc m) = refl
      drop_all (v ∷ vs) zero h = absurd (omega arith)
      drop_all (v ∷ vs) (suc n) h = drop_all vs n (omega arith)

  pub has_more : (keys new : List K) (xs : List A) (k : ℕ) (x : K) (d : A) → k < length xs → f x ≡ get_or xs k d → Has keys xs k → new ≡ insert_key cmp keys x → Has new xs (k + 1)
  has_more keys new xs k x d h e has grown q =
      ap (list_any (λ y. same q (f y))) grown
      ∙ any_inserted cmp (λ y. same q (f y)) (λ a b is. ap (same q) (exact (f a) (f b) (sym (tie a b) ∙ ap is_eq is))) keys x
      ∙ ap (λ b. same q (f x) || b) (has q)
      ∙ sym (any_taken same symmetric (same q) xs k (f x) d h e)

-- numbers, and texts

pub number_tie : (x y : ℕ) → is_eq (nat_cmp x y) ≡ nat_eq x y
number_tie x y = on (nat_lt x y) refl (nat_eq x y) refl
  where
    on : (l : Bool) → nat_lt x y ≡ l → (e : Bool) → nat_eq x y ≡ e → is_eq (cond l Less (cond e Equal Greater)) ≡ e
    on true t true f = let below : x < y = ltb-true x y t in let is : x ≡ y = eqb-true x y f in absurd (omega arith)
    on true t false f = refl
    on false t true f = refl
    on false t false f = refl

pub same_number : (x y : ℕ) → nat_eq x y ≡ true → x ≡ y
same_number x y e = eqb-true x y e

pub same_text_is : (s t : List ℕ) → pointwise nat_eq s t ≡ true → s ≡ t
same_text_is s t e = (bytes_decides s t).0 e

-- the order of texts
abbrev pub text_cmp : Bor (List ℕ) → Bor (List ℕ) → Ordering
text_cmp s t = slice_cmp nat_cmp s.now t.now

pub text_tie : (s t : Bor (List ℕ)) → is_eq (text_cmp s t) ≡ pointwise nat_eq s.now t.now
text_tie s t = is_eq-slice_cmp s.now t.now

-- an element of some texts
pub text_at : (ts : List (Bor (List ℕ))) (k : ℕ) (d : Bor (List ℕ)) → (get_or ts k d).now ≡ get_or (map (λ t. t.now) ts) k d.now
text_at [] k d = refl
text_at (t ∷ ts) zero d = refl
text_at (t ∷ ts) (suc k) d = text_at ts k d

pub texts_length : (ts : List (Bor (List ℕ))) → length (map (λ t. t.now) ts) ≡ length ts
texts_length [] = refl
texts_length (t ∷ ts) = ap suc (texts_length ts)
