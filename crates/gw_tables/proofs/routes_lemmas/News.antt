-- Which networks are learned for the first time.
use Rattle.std.proofs.Common.{◌≡◌, ◌∙◌, ℕ, ◌+◌, ◌-◌, Bool, true, false, cond, not, ◌&&◌, ◌||◌, List, [], ◌∷◌, ◌++◌, length, is_some, if◌then◌else◌, nat_eq, nat_lt, refl, sym, ap, subst, arith, append_assoc, append-nil, true≢false, drop, map, Some}
use Rattle.std.proofs.Math.Seq.{drop-append_seam}
use Rattle.std.proofs.lemmas.Bool.{and_parts, ltb-true, ltb-false, not-true}
use Rattle.std.proofs.lemmas.List.{drop-map, length-append, length-map}
use Rattle.std.proofs.lemmas.List.Folds.{list_any-append}
use Rattle.std.proofs.lemmas.Map.Keys.{IsDistinct-push}
use Rattle.std.specs.Cmp.{nat_eq_equiv}
use Rattle.std.specs.List.{list_any, IsDistinct}
use Rattle.std.specs.Map.{keys_of, lookup}
use Rattle.indexmap.specs.IndexMap.{insert_entry}
use Rattle.gw_tables.specs.declared.routes.route.Route.{Route}
use Rattle.gw_tables.specs.declared.routes.routes.TheConstants.{MAX_ROUTES}
use Rattle.gw_tables.specs.routes.Table.{Table, Routed, routes_held, is_fixed, is_learned, is_new, new_networks, with_learned, with_granted, with_each, grants}
use Rattle.gw_tables.specs.routes.internal.News.{is_found, found_in}
use Rattle.gw_tables.proofs.routes_lemmas.Learning.{equal_of}

-- a network has a route exactly where it is among the keys
among : (n : ℕ) (es : Routed) → is_some (lookup (nat_eq n) es) ≡ list_any (nat_eq n) (keys_of es)
among n [] = refl
among n (e ∷ es) = by (nat_eq n e.0) (among n es)
  where
    by : (b : Bool) → is_some (lookup (nat_eq n) es) ≡ list_any (nat_eq n) (keys_of es)
        → is_some (cond b (Some e.1) (lookup (nat_eq n) es)) ≡ b || list_any (nat_eq n) (keys_of es)
    by true ih = refl
    by false ih = ih

-- one that is learned goes last, unless it is there
keys_insert : (es : Routed) (n : ℕ) (r : Route)
    → keys_of (insert_entry nat_eq es n r) ≡ (if list_any (nat_eq n) (keys_of es) then keys_of es else keys_of es ++ n ∷ [])
keys_insert [] n r = refl
keys_insert (e ∷ es) n r = by (nat_eq n e.0) (list_any (nat_eq n) (keys_of es)) (keys_insert es n r)
  where
    by : (b c : Bool) → keys_of (insert_entry nat_eq es n r) ≡ (if c then keys_of es else keys_of es ++ n ∷ [])
        → keys_of (if b then (e.0, r) ∷ es else e ∷ insert_entry nat_eq es n r)
        ≡ (if b || c then keys_of (e ∷ es) else keys_of (e ∷ es) ++ n ∷ [])
    by true c ih = refl
    by false true ih = ap (λ ks. e.0 ∷ ks) ih
    by false false ih = ap (λ ks. e.0 ∷ ks) ih

-- there is room after those that were found exactly where fewer were found than there was room for
room : (a b m : ℕ) → nat_lt (a + b) m ≡ nat_lt b (m - a)
room a b m = by (nat_lt (a + b) m) refl (nat_lt b (m - a)) refl
  where
    by : (p : Bool) → nat_lt (a + b) m ≡ p → (q : Bool) → nat_lt b (m - a) ≡ q → p ≡ q
    by true e true f = refl
    by false e false f = refl
    by true e false f = absurd (omega (arith, ltb-true _ _ e, ltb-false _ _ f))
    by false e true f = absurd (omega (arith, ltb-false _ _ e, ltb-true _ _ f))

module _ (t : Table) (r : Route) where
  module _ (u : Table) (found : List ℕ) (d : u.direct ≡ t.direct) (c : u.configured ≡ t.configured) (k : keys_of u.learned ≡ keys_of t.learned ++ found) (n : ℕ) where
    fixed : is_fixed u n ≡ is_fixed t n
    fixed = λ j. is_fixed (record { direct = d j; configured = c j; learned = t.learned }) n

    learned : is_learned u n ≡ is_learned t n || list_any (nat_eq n) found
    learned =
        among n u.learned ∙ ap (list_any (nat_eq n)) k ∙ list_any-append (nat_eq n) (keys_of t.learned) found
        ∙ ap (λ b. b || list_any (nat_eq n) found) (sym (among n t.learned))

    held : routes_held u ≡ routes_held t + length found
    held =
        let rows : length u.learned ≡ length t.learned + length found =
        sym (length-map u.learned (λ e. e.0)) ∙ ap length k ∙ length-append (keys_of t.learned) found ∙ ap (λ x. x + length found) (length-map t.learned (λ e. e.0)) in
        let same : length u.configured ≡ length t.configured = ap length c in
        omega (arith, rows, same)

    granted : grants u n ≡ not (is_fixed t n) && ((is_learned t n || list_any (nat_eq n) found) || nat_lt (length found) (MAX_ROUTES - routes_held t))
    granted = λ j. not (fixed j) && (learned j || (ap (λ x. nat_lt x MAX_ROUTES) held ∙ room (routes_held t) (length found) MAX_ROUTES) j)

    inserted : keys_of (with_learned u n r).learned
        ≡ (if is_learned t n || list_any (nat_eq n) found then keys_of u.learned else keys_of u.learned ++ n ∷ [])
    inserted = keys_insert u.learned n r ∙ ap (λ b. if b then keys_of u.learned else keys_of u.learned ++ n ∷ []) (sym (among n u.learned) ∙ learned)

    -- one more learning has one more network where it is found
    pub stepped : keys_of (with_granted u n r).learned ≡ keys_of t.learned ++ (if is_found t found n then found ++ n ∷ [] else found)
    stepped =
        ap (λ b. keys_of (if b then with_learned u n r else u).learned) granted
        ∙ by (is_fixed t n) (is_learned t n) (list_any (nat_eq n) found) (nat_lt (length found) (MAX_ROUTES - routes_held t)) inserted
      where
        pushed : keys_of u.learned ++ n ∷ [] ≡ keys_of t.learned ++ (found ++ n ∷ [])
        pushed = ap (λ ks. ks ++ n ∷ []) k ∙ append_assoc (keys_of t.learned) found (n ∷ [])

        by : (f l among r_ : Bool) → keys_of (with_learned u n r).learned ≡ (if l || among then keys_of u.learned else keys_of u.learned ++ n ∷ [])
            → keys_of (if not f && ((l || among) || r_) then with_learned u n r else u).learned
            ≡ keys_of t.learned ++ (if r_ && ((not f && not l) && not among) then found ++ n ∷ [] else found)
        by true l a true i = k
        by true l a false i = k
        by false true a true i = i ∙ k
        by false true a false i = i ∙ k
        by false false true true i = i ∙ k
        by false false true false i = i ∙ k
        by false false false true i = i ∙ pushed
        by false false false false i = k

    stays : (b : Bool) → (if b then with_learned u n r else u).direct ≡ t.direct
    stays true = d
    stays false = d

    pub stays_direct : (with_granted u n r).direct ≡ t.direct
    stays_direct = stays (grants u n)

    kept : (b : Bool) → (if b then with_learned u n r else u).configured ≡ t.configured
    kept true = c
    kept false = c

    pub stays_configured : (with_granted u n r).configured ≡ t.configured
    stays_configured = kept (grants u n)

  -- a table whose networks are those of the first and these has in the end those that are found, too
  grown : (nets : List ℕ) (u : Table) (found : List ℕ) → u.direct ≡ t.direct → u.configured ≡ t.configured
      → keys_of u.learned ≡ keys_of t.learned ++ found → keys_of (with_each u nets r).learned ≡ keys_of t.learned ++ found_in t found nets
  grown [] u found d c k = k
  grown (n ∷ nets) u found d c k =
      grown nets (with_granted u n r) (if is_found t found n then found ++ n ∷ [] else found)
      (stays_direct u found d c k n) (stays_configured u found d c k n) (stepped u found d c k n)

  -- those that are new are those that are found
  pub new_are_found : (nets : List ℕ) → new_networks t nets r ≡ found_in t [] nets
  new_are_found nets =
      let all : keys_of (with_each t nets r).learned ≡ keys_of t.learned ++ found_in t [] nets =
      grown nets t [] refl refl (sym (append-nil (keys_of t.learned))) in
      sym (drop-map (λ e. e.0) (length t.learned) (with_each t nets r).learned)
      ∙ ap (drop (length t.learned)) all
      ∙ ap (λ x. drop x (keys_of t.learned ++ found_in t [] nets)) (sym (length-map t.learned (λ e. e.0)))
      ∙ drop-append_seam (keys_of t.learned) (found_in t [] nets)

  pub go_last : (nets : List ℕ) → keys_of (with_each t nets r).learned ≡ keys_of t.learned ++ new_networks t nets r
  go_last nets =
      grown nets t [] refl refl (sym (append-nil (keys_of t.learned))) ∙ ap (λ ks. keys_of t.learned ++ ks) (sym (new_are_found nets))

-- ---- what is found

found_parts : (t : Table) (found : List ℕ) (n : ℕ) → is_found t found n ≡ true → (is_new t n ≡ true) × (list_any (nat_eq n) found ≡ false)
found_parts t found n h =
    let room = and_parts (nat_lt (length found) (MAX_ROUTES - routes_held t)) (is_new t n && not (list_any (nat_eq n) found)) h in
    let parts = and_parts (is_new t n) (not (list_any (nat_eq n) found)) room.1 in
    (parts.0, not-true _ parts.1)

once : (t : Table) (nets found : List ℕ) → IsDistinct nat_eq found → IsDistinct nat_eq (found_in t found nets)
once t [] found d = d
once t (n ∷ nets) found d = once t nets (if is_found t found n then found ++ n ∷ [] else found) (by (is_found t found n) refl)
  where
    by : (b : Bool) → is_found t found n ≡ b → IsDistinct nat_eq (if b then found ++ n ∷ [] else found)
    by true e = IsDistinct-push nat_eq_equiv found n d (found_parts t found n e).1
    by false e = d

-- what holds of each that is found, and of those before, holds of all
module _ (t : Table) (m : ℕ) (P : Type 0) where
  all_found : (nets found : List ℕ) → (list_any (nat_eq m) found ≡ true → P)
      → ((taken : List ℕ) (n : ℕ) → list_any (nat_eq n) nets ≡ true → is_found t taken n ≡ true → nat_eq m n ≡ true → P)
      → list_any (nat_eq m) (found_in t found nets) ≡ true → P
  all_found [] found before each h = before h
  all_found (n ∷ nets) found before each h =
      all_found nets (if is_found t found n then found ++ n ∷ [] else found) (by (is_found t found n) refl)
      (λ taken x a. each taken x (later x (nat_eq x n) a)) h
    where
      later : (x : ℕ) (b : Bool) → list_any (nat_eq x) nets ≡ true → b || list_any (nat_eq x) nets ≡ true
      later x true a = refl
      later x false a = a

      or : (a b : Bool) → a || (b || false) ≡ true → (a ≡ true → P) → (b ≡ true → P) → P
      or true b e p q = p refl
      or false true e p q = q refl
      or false false e p q = absurd (true≢false (sym e))

      own : nat_eq n n || list_any (nat_eq n) nets ≡ true
      own = ap (λ b. b || list_any (nat_eq n) nets) (nat_eq_equiv.refl n)

      by : (b : Bool) → is_found t found n ≡ b → list_any (nat_eq m) (if b then found ++ n ∷ [] else found) ≡ true → P
      by true e a =
          or (list_any (nat_eq m) found) (nat_eq m n) (sym (list_any-append (nat_eq m) found (n ∷ [])) ∙ a) before
          (each found n own e)
      by false e a = before a

pub new_once : (t : Table) (nets : List ℕ) (r : Route) → IsDistinct nat_eq (new_networks t nets r)
unfolding IsDistinct
new_once t nets r = subst (IsDistinct nat_eq) (sym (new_are_found t r nets)) (once t nets [] tt)

pub new_unknown : (t : Table) (nets : List ℕ) (r : Route) (m : ℕ) → list_any (nat_eq m) (new_networks t nets r) ≡ true → is_new t m ≡ true
new_unknown t nets r m h =
    all_found t m (is_new t m ≡ true) nets [] (λ e. absurd (true≢false (sym e)))
    (λ taken n a e same. subst (λ x. is_new t x ≡ true) (sym (equal_of m n same)) (found_parts t taken n e).0)
    (sym (ap (list_any (nat_eq m)) (new_are_found t r nets)) ∙ h)

pub new_named : (t : Table) (nets : List ℕ) (r : Route) (m : ℕ) → list_any (nat_eq m) (new_networks t nets r) ≡ true → list_any (nat_eq m) nets ≡ true
new_named t nets r m h =
    all_found t m (list_any (nat_eq m) nets ≡ true) nets [] (λ e. absurd (true≢false (sym e)))
    (λ taken n a e same. subst (λ x. list_any (nat_eq x) nets ≡ true) (sym (equal_of m n same)) a)
    (sym (ap (list_any (nat_eq m)) (new_are_found t r nets)) ∙ h)

-- ---- one after the other

pub first_found : (t : Table) (nets left found after : List ℕ) (n : ℕ) → nets ≡ n ∷ left → after ≡ (if is_found t found n then found ++ n ∷ [] else found)
    → found_in t after left ≡ found_in t found nets
first_found t nets left found after n e a = ap (λ x. found_in t x left) a ∙ sym (ap (found_in t found) e)
