-- Which numbers the lists of ranges hold.
use Rattle.std.proofs.Common.{◌≡◌, ◌∙◌, sym, ap, refl, ℕ, ◌-◌, ◌+◌, ◌≤◌, ◌<◌, Bool, true, false, cond, ◌&&◌, ◌||◌, List, [], ◌∷◌, Some, None, arith, nat_le, nat_lt}
use Rattle.std.specs.Prelude.{not, if◌then◌else◌}
use Rattle.std.specs.List.{flat_map, list_any}
use Rattle.std.specs.Option.{option_to_list}
use Rattle.std.proofs.lemmas.Bool.{and_from, and_parts, cond_both, false_from_ne_true, le-leb, leb-true, lt-ltb, ltb-true, ltb-false}
use Rattle.std.proofs.lemmas.List.Folds.{list_any-append}
use Rattle.gw_rules.specs.Range.{holds}
use Rattle.gw_rules.specs.declared.range.Range.{Range}
use Rattle.gw_ask_sets.specs.regions.Ranges.{between, both, greater, lesser, outside, over, shared, shared_with, under, without, without_one}

-- ---- tests

pub same : (a b : Bool) → (a ≡ true → b ≡ true) → (b ≡ true → a ≡ true) → a ≡ b
same true b f g = sym (f refl)
same false true f g = g refl
same false false f g = refl

pub or_none : (b : Bool) → (b || false) ≡ b
or_none true = refl
or_none false = refl

pub and_all : (b : Bool) → (b && true) ≡ b
and_all true = refl
and_all false = refl

pub and_none : (b : Bool) → (b && false) ≡ false
and_none true = refl
and_none false = refl

-- ---- a range

pub held : (n : ℕ) (r : Range) → holds n r ≡ true → (r.low ≤ n) × (n ≤ r.high)
held n r t =
    let parts = and_parts (nat_le r.low n) (nat_le n r.high) t in
    (leb-true r.low n parts.0, leb-true n r.high parts.1)

pub hold : (n : ℕ) (r : Range) → r.low ≤ n → n ≤ r.high → holds n r ≡ true
hold n r a b = and_from (nat_le r.low n) (nat_le n r.high) (le-leb r.low n a) (le-leb n r.high b)

where_some : (n : ℕ) (c : Bool) (r : Range) → list_any (holds n) (option_to_list (if c then Some r else None)) ≡ (c && holds n r)
where_some n true r = or_none (holds n r)
where_some n false r = refl

greater_from : (a b n : ℕ) → a ≤ n → b ≤ n → greater a b ≤ n
greater_from a b n x y = cond_both (nat_lt a b) b a (λ z. z ≤ n) (λ e. y) (λ e. x)

greater_parts : (a b n : ℕ) → greater a b ≤ n → (a ≤ n) × (b ≤ n)
greater_parts a b n l = by (nat_lt a b) refl l
  where
    by : (c : Bool) → nat_lt a b ≡ c → cond c b a ≤ n → (a ≤ n) × (b ≤ n)
    by true e m = let u = ltb-true a b e in (omega arith, m)
    by false e m = let u = ltb-false a b e in (m, omega arith)

lesser_from : (a b n : ℕ) → n ≤ a → n ≤ b → n ≤ lesser a b
lesser_from a b n x y = cond_both (nat_lt b a) b a (λ z. n ≤ z) (λ e. y) (λ e. x)

lesser_parts : (a b n : ℕ) → n ≤ lesser a b → (n ≤ a) × (n ≤ b)
lesser_parts a b n l = by (nat_lt b a) refl l
  where
    by : (c : Bool) → nat_lt b a ≡ c → n ≤ cond c b a → (n ≤ a) × (n ≤ b)
    by true e m = let u = ltb-true b a e in (omega arith, m)
    by false e m = let u = ltb-false b a e in (m, omega arith)

both_law : (n : ℕ) (a b : Range) → list_any (holds n) (option_to_list (both a b)) ≡ (holds n a && holds n b)
both_law n a b =
    let low = greater a.low b.low in
    let high = lesser a.high b.high in
    where_some n (nat_le low high) (between low high)
    ∙ same (nat_le low high && holds n (between low high)) (holds n a && holds n b)
    (
    λ t.
    let parts = and_parts (nat_le low high) (holds n (between low high)) t in
    let at = held n (between low high) parts.1 in
    let from = greater_parts a.low b.low n at.0 in
    let to = lesser_parts a.high b.high n at.1 in
    and_from (holds n a) (holds n b) (hold n a from.0 to.0) (hold n b from.1 to.1)
    )
    (
    λ t.
    let parts = and_parts (holds n a) (holds n b) t in
    let one = held n a parts.0 in
    let two = held n b parts.1 in
    let from : low ≤ n = greater_from a.low b.low n one.0 two.0 in
    let to : n ≤ high = lesser_from a.high b.high n one.1 two.1 in
    and_from (nat_le low high) (holds n (between low high)) (le-leb low high (omega (arith, from, to)))
    (hold n (between low high) from to)
    )

below_end : (a b n : ℕ) → n < b → n ≤ a → n ≤ (if nat_lt a b then a else b - 1)
below_end a b n x y = cond_both (nat_lt a b) a (b - 1) (λ z. n ≤ z) (λ e. y) (λ e. omega arith)

below_parts : (a b n : ℕ) → 0 < b → n ≤ (if nat_lt a b then a else b - 1) → (n ≤ a) × (n < b)
below_parts a b n some l = by (nat_lt a b) refl l
  where
    by : (c : Bool) → nat_lt a b ≡ c → n ≤ cond c a (b - 1) → (n ≤ a) × (n < b)
    by true e m = let u = ltb-true a b e in (m, omega arith)
    by false e m = let u = ltb-false a b e in (omega arith, omega arith)

under_law : (n : ℕ) (a b : Range) → list_any (holds n) (option_to_list (under a b)) ≡ (holds n a && nat_lt n b.low)
under_law n a b =
    let c = nat_lt a.low b.low in
    let r = between a.low (if nat_lt a.high b.low then a.high else b.low - 1) in
    where_some n c r
    ∙ same (c && holds n r) (holds n a && nat_lt n b.low)
    (
    λ t.
    let parts = and_parts c (holds n r) t in
    let below = ltb-true a.low b.low parts.0 in
    let at = held n r parts.1 in
    let to = below_parts a.high b.low n (omega arith) at.1 in
    and_from (holds n a) (nat_lt n b.low) (hold n a at.0 to.0) (lt-ltb n b.low to.1)
    )
    (
    λ t.
    let parts = and_parts (holds n a) (nat_lt n b.low) t in
    let at = held n a parts.0 in
    let from = at.0 in
    let under = ltb-true n b.low parts.1 in
    and_from c (holds n r) (lt-ltb a.low b.low (omega arith)) (hold n r at.0 (below_end a.high b.low n under at.1))
    )

above_end : (a b n : ℕ) → b < n → a ≤ n → (if nat_lt b a then a else b + 1) ≤ n
above_end a b n x y = cond_both (nat_lt b a) a (b + 1) (λ z. z ≤ n) (λ e. y) (λ e. omega arith)

above_parts : (a b n : ℕ) → (if nat_lt b a then a else b + 1) ≤ n → (a ≤ n) × (b < n)
above_parts a b n l = by (nat_lt b a) refl l
  where
    by : (c : Bool) → nat_lt b a ≡ c → cond c a (b + 1) ≤ n → (a ≤ n) × (b < n)
    by true e m = let u = ltb-true b a e in (m, omega arith)
    by false e m = let u = ltb-false b a e in (omega arith, omega arith)

over_law : (n : ℕ) (a b : Range) → list_any (holds n) (option_to_list (over a b)) ≡ (holds n a && nat_lt b.high n)
over_law n a b =
    let c = nat_lt b.high a.high in
    let r = between (if nat_lt b.high a.low then a.low else b.high + 1) a.high in
    where_some n c r
    ∙ same (c && holds n r) (holds n a && nat_lt b.high n)
    (
    λ t.
    let parts = and_parts c (holds n r) t in
    let at = held n r parts.1 in
    let from = above_parts a.low b.high n at.0 in
    and_from (holds n a) (nat_lt b.high n) (hold n a from.0 at.1) (lt-ltb b.high n from.1)
    )
    (
    λ t.
    let parts = and_parts (holds n a) (nat_lt b.high n) t in
    let at = held n a parts.0 in
    let to = at.1 in
    let above = ltb-true b.high n parts.1 in
    and_from c (holds n r) (lt-ltb b.high a.high (omega arith)) (hold n r (above_end a.low b.high n above at.0) at.1)
    )

-- outside a range is below it or above
beside : (n : ℕ) (r : Range) → (nat_lt n r.low || nat_lt r.high n) ≡ not (holds n r)
beside n r = by (nat_lt n r.low) (nat_lt r.high n) refl refl
  where
    by : (a b : Bool) → nat_lt n r.low ≡ a → nat_lt r.high n ≡ b → (a || b) ≡ not (holds n r)
    by true b e f =
        let u = ltb-true n r.low e in
        sym (ap not (false_from_ne_true (holds n r) (λ t. let at = held n r t in let l = at.0 in absurd (omega arith))))
    by false true e f =
        let u = ltb-true r.high n f in
        sym (ap not (false_from_ne_true (holds n r) (λ t. let at = held n r t in let l = at.1 in absurd (omega arith))))
    by false false e f =
        let u = ltb-false n r.low e in
        let v = ltb-false r.high n f in
        sym (ap not (hold n r u v))

joined : (h a b c : Bool) → (a || b) ≡ not c → ((h && a) || (h && b)) ≡ (h && not c)
joined true a b c e = e
joined false a b c e = refl

outside_law : (n : ℕ) (y x : Range) → list_any (holds n) (outside y x) ≡ (holds n x && not (holds n y))
outside_law n y x =
    list_any-append (holds n) (option_to_list (under x y)) (option_to_list (over x y))
    ∙ ap (λ b. b || list_any (holds n) (option_to_list (over x y))) (under_law n x y)
    ∙ ap (λ b. (holds n x && nat_lt n y.low) || b) (over_law n x y)
    ∙ joined (holds n x) (nat_lt n y.low) (nat_lt y.high n) (holds n y) (beside n y)

-- ---- lists

pub flat_any : {A B : Type 0} (test : B → Bool) (make : A → List B) (xs : List A) → list_any test (flat_map make xs) ≡ list_any (λ x. list_any test (make x)) xs
flat_any test make [] = refl
flat_any test make (x ∷ xs) =
    list_any-append test (make x) (flat_map make xs) ∙ ap (λ b. list_any test (make x) || b) (flat_any test make xs)

pub any_same : {A : Type 0} (one two : A → Bool) → ((x : A) → one x ≡ two x) → (xs : List A) → list_any one xs ≡ list_any two xs
any_same one two e [] = refl
any_same one two e (x ∷ xs) = ap (λ b. b || list_any one xs) (e x) ∙ ap (λ b. two x || b) (any_same one two e xs)

pub any_fails : {A : Type 0} (test : A → Bool) → ((x : A) → test x ≡ false) → (xs : List A) → list_any test xs ≡ false
any_fails test e [] = refl
any_fails test e (x ∷ xs) = ap (λ b. b || list_any test xs) (e x) ∙ any_fails test e xs

any_with : {A : Type 0} (test : A → Bool) (c : Bool) (xs : List A) → list_any (λ x. test x && c) xs ≡ (list_any test xs && c)
any_with test true xs = any_same (λ x. test x && true) test (λ x. and_all (test x)) xs ∙ sym (and_all (list_any test xs))
any_with test false xs = any_fails (λ x. test x && false) (λ x. and_none (test x)) xs ∙ sym (and_none (list_any test xs))

any_front : {A : Type 0} (c : Bool) (test : A → Bool) (xs : List A) → list_any (λ x. c && test x) xs ≡ (c && list_any test xs)
any_front true test xs = refl
any_front false test xs = any_fails (λ x. false) (λ x. refl) xs

with_law : (n : ℕ) (ys : List Range) (x : Range) → list_any (holds n) (shared_with ys x) ≡ (holds n x && list_any (holds n) ys)
with_law n ys x =
    flat_any (holds n) (λ y. option_to_list (both x y)) ys
    ∙ any_same (λ y. list_any (holds n) (option_to_list (both x y))) (λ y. holds n x && holds n y) (λ y. both_law n x y) ys
    ∙ any_front (holds n x) (holds n) ys

-- what two lists share holds what both hold
pub shared_law : (n : ℕ) (xs ys : List Range) → list_any (holds n) (shared xs ys) ≡ (list_any (holds n) xs && list_any (holds n) ys)
shared_law n xs ys =
    flat_any (holds n) (shared_with ys) xs
    ∙ any_same (λ x. list_any (holds n) (shared_with ys x)) (λ x. holds n x && list_any (holds n) ys) (λ x. with_law n ys x) xs
    ∙ any_with (holds n) (list_any (holds n) ys) xs

one_law : (n : ℕ) (xs : List Range) (y : Range) → list_any (holds n) (without_one xs y) ≡ (list_any (holds n) xs && not (holds n y))
one_law n xs y =
    flat_any (holds n) (outside y) xs
    ∙ any_same (λ x. list_any (holds n) (outside y x)) (λ x. holds n x && not (holds n y)) (λ x. outside_law n y x) xs
    ∙ any_with (holds n) (not (holds n y)) xs

neither : (a b c : Bool) → ((a && not b) && not c) ≡ (a && not (b || c))
neither true true c = refl
neither true false c = refl
neither false b c = refl

-- what is left of a list outside another holds what the one holds and the other doesn't
pub without_law : (n : ℕ) (xs ys : List Range) → list_any (holds n) (without xs ys) ≡ (list_any (holds n) xs && not (list_any (holds n) ys))
without_law n xs [] = sym (and_all (list_any (holds n) xs))
without_law n xs (y ∷ ys) =
    without_law n (without_one xs y) ys
    ∙ ap (λ b. b && not (list_any (holds n) ys)) (one_law n xs y)
    ∙ neither (list_any (holds n) xs) (holds n y) (list_any (holds n) ys)
