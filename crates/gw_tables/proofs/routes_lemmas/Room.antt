-- How much room the networks of a list need.
use Rattle.std.proofs.Common.{◌≡◌, ◌∙◌, ℕ, ◌+◌, ◌-◌, ◌<◌, ◌≤◌, min, Bool, true, false, cond, not, ◌&&◌, ◌||◌, List, [], ◌∷◌, length, is_some, if◌then◌else◌, nat_eq, nat_lt, count_by, refl, sym, ap, subst, arith, true≢false, Some, suc, get_or, drop}
use Rattle.std.proofs.Math.Seq.{drop-cons}
use Rattle.std.proofs.lemmas.Bool.{ltb-true, and_parts, and_from, not-true, false_from_ne_true}
use Rattle.std.proofs.lemmas.List.Sums.{sum_by-cons}
use Rattle.std.specs.Map.{keys_of, lookup}
use Rattle.indexmap.specs.IndexMap.{insert_entry}
use Rattle.gw_tables.specs.declared.routes.route.Route.{Route}
use Rattle.gw_tables.specs.declared.routes.routes.TheConstants.{MAX_ROUTES}
use Rattle.gw_tables.specs.routes.Table.{Table, Routed, routes_held, is_fixed, is_learned, is_new, growth, with_learned, with_granted, with_each, learned_by}
use Rattle.gw_tables.specs.routes.internal.Fixed.{places}

-- a network that is learned stays learned
still_learned : (es : Routed) (n : ℕ) (r : Route) (m : ℕ) → is_some (lookup (nat_eq m) es) ≡ true
    → is_some (lookup (nat_eq m) (insert_entry nat_eq es n r)) ≡ true
still_learned [] n r m h = absurd (true≢false (sym h))
still_learned (e ∷ es) n r m h = by (nat_eq n e.0) (nat_eq m e.0) refl h (still_learned es n r m)
  where
    by : (b c : Bool) → nat_eq m e.0 ≡ c → is_some (cond c (Some e.1) (lookup (nat_eq m) es)) ≡ true
        → (is_some (lookup (nat_eq m) es) ≡ true → is_some (lookup (nat_eq m) (insert_entry nat_eq es n r)) ≡ true)
        → is_some (lookup (nat_eq m) (if b then (e.0, r) ∷ es else e ∷ insert_entry nat_eq es n r)) ≡ true
    by true true q h rest = ap (λ x. is_some (cond x (Some r) (lookup (nat_eq m) es))) q
    by true false q h rest = ap (λ x. is_some (cond x (Some r) (lookup (nat_eq m) es))) q ∙ h
    by false true q h rest = ap (λ x. is_some (cond x (Some e.1) (lookup (nat_eq m) (insert_entry nat_eq es n r)))) q
    by false false q h rest = ap (λ x. is_some (cond x (Some e.1) (lookup (nat_eq m) (insert_entry nat_eq es n r)))) q ∙ rest h

-- one more network is one more row, unless it was learned before
pub length-insert_entry : (es : Routed) (n : ℕ) (r : Route)
    → length (insert_entry nat_eq es n r) ≡ length es + (if is_some (lookup (nat_eq n) es) then 0 else 1)
length-insert_entry [] n r = refl
length-insert_entry (e ∷ es) n r = by (nat_eq n e.0) (length-insert_entry es n r)
  where
    by : (b : Bool) → length (insert_entry nat_eq es n r) ≡ length es + (if is_some (lookup (nat_eq n) es) then 0 else 1)
        → length (if b then (e.0, r) ∷ es else e ∷ insert_entry nat_eq es n r)
        ≡ length (e ∷ es) + (if is_some (cond b (Some e.1) (lookup (nat_eq n) es)) then 0 else 1)
    by true ih = omega arith
    by false ih = omega (arith, ih)

count_by-cons : (p : ℕ → Bool) (m : ℕ) (nets : List ℕ) → count_by p (m ∷ nets) ≡ cond (p m) 1 0 + count_by p nets
count_by-cons p m nets = sum_by-cons (λ x. cond (p x) 1 0) m nets

-- what passes a narrower test is no more
count_le : (p q : ℕ → Bool) → ((m : ℕ) → p m ≡ true → q m ≡ true) → (nets : List ℕ) → count_by p nets ≤ count_by q nets
count_le p q h [] = omega arith
count_le p q h (m ∷ nets) =
    let one : cond (p m) 1 0 ≤ cond (q m) 1 0 = by (p m) (q m) (h m) in
    let more : count_by p nets ≤ count_by q nets = count_le p q h nets in
    omega (arith, one, more, count_by-cons p m nets, count_by-cons q m nets)
  where
    by : (b c : Bool) → (b ≡ true → c ≡ true) → cond b 1 0 ≤ cond c 1 0
    by true true k = omega arith
    by true false k = absurd (true≢false (sym (k refl)))
    by false c k = omega arith

module _ (t : Table) (n : ℕ) (r : Route) where
  -- what is new to the table afterwards was new before
  new_before : (m : ℕ) → is_new (with_learned t n r) m ≡ true → is_new t m ≡ true
  new_before m h =
      let parts = and_parts (not (is_fixed t m)) (not (is_learned (with_learned t n r) m)) h in
      let not_then : is_learned (with_learned t n r) m ≡ false = not-true _ parts.1 in
      let not_before : is_learned t m ≡ false =
      false_from_ne_true _ (λ e. true≢false (sym (still_learned t.learned n r m e) ∙ not_then)) in
      and_from (not (is_fixed t m)) (not (is_learned t m)) parts.0 (ap not not_before)

  -- the room that a list needs is what its first network takes and what the others need then
  pub growth_step : (nets : List ℕ) → growth (with_granted t n r) nets + places t n ≤ growth t (n ∷ nets)
  growth_step nets =
      subst (λ c. growth (with_granted t n r) nets + places t n ≤ min c (MAX_ROUTES - routes_held t)) (sym (count_by-cons (is_new t) n nets))
      (by (is_fixed t n) (is_learned t n) refl (nat_lt (routes_held t) MAX_ROUTES) refl)
    where
      u : Table
      u = with_learned t n r

      held : length (insert_entry nat_eq t.learned n r) ≡ length t.learned + (if is_learned t n then 0 else 1)
      held = length-insert_entry t.learned n r

      fewer : count_by (is_new (with_learned t n r)) nets ≤ count_by (is_new t) nets
      fewer = count_le (is_new (with_learned t n r)) (is_new t) new_before nets

      by : (f l : Bool) → is_learned t n ≡ l → (b : Bool) → nat_lt (routes_held t) MAX_ROUTES ≡ b
          → growth (if not f && (l || b) then with_learned t n r else t) nets + (if (not f && (l || b)) && not l then 1 else 0)
          ≤ min (cond (not f && not l) 1 0 + count_by (is_new t) nets) (MAX_ROUTES - routes_held t)
      by true l e b k = omega arith
      by false true e b k =
          let rows : length (insert_entry nat_eq t.learned n r) ≡ length t.learned + 0 = held ∙ ap (λ x. length t.learned + (if x then 0 else 1)) e in
          omega (arith, rows, fewer)
      by false false e true k =
          let rows : length (insert_entry nat_eq t.learned n r) ≡ length t.learned + 1 = held ∙ ap (λ x. length t.learned + (if x then 0 else 1)) e in
          let few : routes_held t < MAX_ROUTES = ltb-true _ _ k in
          omega (arith, rows, fewer, few)
      by false false e false k = omega arith

-- what is left of a list after its first network
pub room_left : (t u : Table) (n : ℕ) (r : Route) (nets left : List ℕ) → nets ≡ n ∷ left → u ≡ with_granted t n r
    → growth u left + places t n ≤ growth t nets
room_left t u n r nets left e s =
    subst (λ ns. growth u left + places t n ≤ growth t ns) (sym e)
    (subst (λ w. growth w left + places t n ≤ growth t (n ∷ left)) (sym s) (growth_step t n r left))

pub rows_left : (t u : Table) (n : ℕ) (r : Route) (nets left : List ℕ) → nets ≡ n ∷ left → u ≡ with_granted t n r
    → with_each u left r ≡ with_each t nets r
rows_left t u n r nets left e s = ap (λ w. with_each w left r) s ∙ sym (ap (λ ns. with_each t ns r) e)

pub first_left : (nets : List ℕ) (i n : ℕ) → i < length nets → n ≡ get_or nets i n → drop i nets ≡ n ∷ drop (i + 1) nets
first_left nets i n h e =
    let next : suc i ≡ i + 1 = omega arith in
    drop-cons nets i n h ∙ (λ j. sym e j ∷ drop (next j) nets)

-- ---- networks, each with its own route

-- the count of keys that pass a test
pub count_keys : (p : ℕ → Bool) (es : Routed) → count_by p (keys_of es) ≡ count_by (λ e. p e.0) es
count_keys p [] = refl
count_keys p (e ∷ es) =
    count_by-cons p e.0 (keys_of es)
    ∙ ap (λ n. cond (p e.0) 1 0 + n) (count_keys p es)
    ∙ sym (sum_by-cons (λ x. cond (p x.0) 1 0) e es)

pub first_by : (es : Routed) (i n : ℕ) (r : Route) → i < length es → (n, r) ≡ get_or es i (n, r)
    → drop i es ≡ (n, r) ∷ drop (i + 1) es
first_by es i n r h e =
    let next : suc i ≡ i + 1 = omega arith in
    drop-cons es i (n, r) h ∙ (λ j. sym e j ∷ drop (next j) es)

pub by_left : (t u : Table) (n : ℕ) (r : Route) (es left : Routed) → es ≡ (n, r) ∷ left → u ≡ with_granted t n r
    → learned_by u left ≡ learned_by t es
by_left t u n r es left e s = ap (λ w. learned_by w left) s ∙ sym (ap (λ xs. learned_by t xs) e)
