-- The definitions of a history in plain words.
use Rattle.std.proofs.Common.{◌≡◌, ◌∙◌, ◌↔◌, ℕ, ◌+◌, ◌-◌, ◌<◌, Bool, true, false, cond, ◌||◌, ◌&&◌, not, List, [], ◌∷◌, ◌++◌, length, Option, Some, None, is_some, if◌then◌else◌, nat_lt, refl, sym, ap, subst, true≢false, filter, filter_map, arith, option_map}
use Rattle.std.specs.List.{list_any, AllByRecursion, cons_option}
use Rattle.std.specs.Option.{option_and_then}
use Rattle.std.specs.Map.{lookup}
use Rattle.std.proofs.lemmas.Bool.{ltb-true, ltb-false}
use Rattle.gw_addr.specs.declared.bip.BipAddr.{BipAddr}
use Rattle.gw_tables.specs.declared.bdt_fdt.fdt.TheConstants.{GRACE}
use Rattle.gw_tables.specs.bdt_fdt.Registrations.{Registration, same}
use Rattle.gw_tables.specs.bdt_fdt.History.{Register, Delete, Tick, History, Grant, longer_ago, last_grant, registration_by, registration_after, is_registered, with_address, order_after, row_after, ticks_in, table_after}
use Rattle.gw_tables.specs.bdt_fdt.Laws.{is_about, IsLastGrant, began_after, BeganInTurn}
use Rattle.gw_tables.proofs.bdt_fdt_lemmas.Same.{own, equal_of}
use Rattle.gw_tables.proofs.bdt_fdt_lemmas.Order.{fresh, registered, AreRegistered, paired}

pub same_is_equal : (a b : BipAddr) → (same a b ≡ true) ↔ (a ≡ b)
same_is_equal a b = (equal_of a b, λ e. ap (λ c. same a c) (sym e) ∙ own a)

-- ---- the last grant

some_of : {A : Type 0} {x y : A} → Some x ≡ Some y → x ≡ y
some_of {A} {x} {y} e = ap value e
  where
    value : Option A → A
    value None = x
    value (Some v) = v

last_found : (h : History) (a : BipAddr) (g : Grant) → last_grant h a ≡ Some g → IsLastGrant h a g
unfolding ticks_in
last_found [] a g e = absurd (true≢false (sym (ap is_some e)))
last_found (Register b ttl ∷ h) a g e = by (same a b) refl e (last_found h a g)
  where
    by : (x : Bool) → same a b ≡ x → cond x (Some (record { time_to_live = ttl; ago = 0 })) (last_grant h a) ≡ Some g
        → (last_grant h a ≡ Some g → IsLastGrant h a g) → IsLastGrant (Register b ttl ∷ h) a g
    by true s f ih = record {
      newer = [];
      older = h;
      whole = λ j. Register (sym (equal_of a b s) j) ((some_of f j).time_to_live) ∷ h;
      since = tt;
      ago = sym (ap (λ x. x.ago) (some_of f));
    }
    by false s f ih =
        let it = ih f in
        record {
          newer = Register b ttl ∷ it.newer;
          older = it.older;
          whole = ap (λ acts. Register b ttl ∷ acts) it.whole;
          since = (s, it.since);
          ago = it.ago;
        }
last_found (Delete b ∷ h) a g e = by (same a b) refl e (last_found h a g)
  where
    by : (x : Bool) → same a b ≡ x → cond x None (last_grant h a) ≡ Some g
        → (last_grant h a ≡ Some g → IsLastGrant h a g) → IsLastGrant (Delete b ∷ h) a g
    by true s f ih = absurd (true≢false (sym (ap is_some f)))
    by false s f ih =
        let it = ih f in
        record {
          newer = Delete b ∷ it.newer;
          older = it.older;
          whole = ap (λ acts. Delete b ∷ acts) it.whole;
          since = (s, it.since);
          ago = it.ago;
        }
last_found (Tick ∷ h) a g e = by (last_grant h a) refl e (last_found h a)
  where
    by : (o : Option Grant) → last_grant h a ≡ o → option_map longer_ago o ≡ Some g
        → ((f : Grant) → last_grant h a ≡ Some f → IsLastGrant h a f) → IsLastGrant (Tick ∷ h) a g
    by None s f ih = absurd (true≢false (sym (ap is_some f)))
    by (Some x) s f ih =
        let it = ih x s in
        record {
          newer = Tick ∷ it.newer;
          older = it.older;
          whole = ap (λ acts. Tick ∷ acts) it.whole ∙ ap (λ y. Tick ∷ (it.newer ++ Register a y.time_to_live ∷ it.older)) (some_of f);
          since = (refl, it.since);
          ago = sym (ap (λ y. y.ago) (some_of f)) ∙ ap (λ n. n + 1) it.ago;
        }

grant_at : (newer older : History) (a : BipAddr) (ttl : ℕ) → AllByRecursion (λ act. is_about a act ≡ false) newer
    → last_grant (newer ++ Register a ttl ∷ older) a ≡ Some (record { time_to_live = ttl; ago = ticks_in newer })
unfolding ticks_in
grant_at [] older a ttl since =
    ap (λ x. cond x (Some (record { time_to_live = ttl; ago = 0 })) (last_grant older a)) (own a)
grant_at (Register b t ∷ newer) older a ttl since =
    ap (λ x. cond x (Some (record { time_to_live = t; ago = 0 })) (last_grant (newer ++ Register a ttl ∷ older) a)) since.0
    ∙ grant_at newer older a ttl since.1
grant_at (Delete b ∷ newer) older a ttl since =
    ap (λ x. cond x None (last_grant (newer ++ Register a ttl ∷ older) a)) since.0
    ∙ grant_at newer older a ttl since.1
grant_at (Tick ∷ newer) older a ttl since = ap (option_map longer_ago) (grant_at newer older a ttl since.1)

pub last_grant_found : (h : History) (a : BipAddr) (g : Grant) → (last_grant h a ≡ Some g) ↔ IsLastGrant h a g
last_grant_found h a g = (
  last_found h a g,
  λ it. ap (λ acts. last_grant acts a) it.whole ∙ grant_at it.newer it.older a g.time_to_live it.since
      ∙ ap (λ n. Some (record { time_to_live = g.time_to_live; ago = n })) (sym it.ago),
)

-- ---- who is in the order

any_last : (m n : BipAddr) (bs : List BipAddr) → list_any (same m) (bs ++ n ∷ []) ≡ same m n || list_any (same m) bs
any_last m n [] = refl
any_last m n (x ∷ bs) = ap (λ b. same m x || b) (any_last m n bs) ∙ swapped (same m x) (same m n) (list_any (same m) bs)
  where
    swapped : (a b c : Bool) → a || (b || c) ≡ b || (a || c)
    swapped true true c = refl
    swapped true false c = refl
    swapped false b c = refl

any_with : (m n : BipAddr) (bs : List BipAddr) → list_any (same m) (with_address bs n) ≡ same m n || list_any (same m) bs
any_with m n bs = by (list_any (same n) bs) refl (same m n) refl
  where
    by : (a : Bool) → list_any (same n) bs ≡ a → (b : Bool) → same m n ≡ b
        → list_any (same m) (if a then bs else bs ++ n ∷ []) ≡ b || list_any (same m) bs
    by true e true q = subst (λ k. list_any (same k) bs ≡ true) (sym (equal_of m n q)) e
    by true e false q = refl
    by false e b q = any_last m n bs ∙ ap (λ x. x || list_any (same m) bs) q

any_filter : (p : BipAddr → Bool) (m : BipAddr) (bs : List BipAddr) → list_any (same m) (filter p bs) ≡ p m && list_any (same m) bs
any_filter p m [] = by (p m)
  where
    by : (b : Bool) → false ≡ b && false
    by true = refl
    by false = refl
any_filter p m (x ∷ bs) = by (p x) refl (same m x) refl (any_filter p m bs)
  where
    shown : (b : Bool) → b && true ≡ b
    shown true = refl
    shown false = refl

    by : (a : Bool) → p x ≡ a → (b : Bool) → same m x ≡ b → list_any (same m) (filter p bs) ≡ p m && list_any (same m) bs
        → list_any (same m) (cond a (x ∷ filter p bs) (filter p bs)) ≡ p m && (b || list_any (same m) bs)
    by true e true q ih = ap (λ b. b || list_any (same m) (filter p bs)) q ∙ sym (shown (p m) ∙ ap p (equal_of m x q) ∙ e)
    by true e false q ih = ap (λ b. b || list_any (same m) (filter p bs)) q ∙ ih
    by false e true q ih = ih ∙ ap (λ b. b && list_any (same m) bs) out ∙ sym (shown (p m) ∙ out)
      where
        out : p m ≡ false
        out = ap p (equal_of m x q) ∙ e
    by false e false q ih = ih

within : (p q : Bool) → (p ≡ true → q ≡ true) → p && q ≡ p
within true q k = k refl
within false q k = refl

registered_before : (h : History) (a b : BipAddr) → is_registered (Delete b ∷ h) a ≡ true → is_registered h a ≡ true
registered_before h a b r = by (same a b) r
  where
    by : (x : Bool) → is_some (option_and_then registration_by (cond x None (last_grant h a))) ≡ true → is_registered h a ≡ true
    by true e = absurd (true≢false (sym e))
    by false e = e

registered_before_tick : (h : History) (a : BipAddr) → is_registered (Tick ∷ h) a ≡ true → is_registered h a ≡ true
registered_before_tick h a r = of (last_grant h a) r
  where
    of : (o : Option Grant) → is_some (option_and_then registration_by (option_map longer_ago o)) ≡ true
        → is_some (option_and_then registration_by o) ≡ true
    of None e = absurd (true≢false (sym e))
    of (Some g) e = by (nat_lt g.ago (g.time_to_live + GRACE)) refl (nat_lt (g.ago + 1) (g.time_to_live + GRACE)) refl e
      where
        by : (x : Bool) → nat_lt g.ago (g.time_to_live + GRACE) ≡ x → (y : Bool) → nat_lt (g.ago + 1) (g.time_to_live + GRACE) ≡ y
            → is_some {T = Registration} (if y then Some (record { time_to_live = g.time_to_live; left = g.time_to_live + GRACE - (g.ago + 1) }) else None) ≡ true
            → is_some {T = Registration} (if x then Some (record { time_to_live = g.time_to_live; left = g.time_to_live + GRACE - g.ago }) else None) ≡ true
        by true p y q f = refl
        by false p true q f =
            let n = ltb-false g.ago (g.time_to_live + GRACE) p in
            let m = ltb-true (g.ago + 1) (g.time_to_live + GRACE) q in
            absurd (omega (arith, n, m))
        by false p false q f = absurd (true≢false (sym f))

pub registered_stand : (h : History) (a : BipAddr) → list_any (same a) (order_after h) ≡ is_registered h a
unfolding order_after
registered_stand [] a = refl
registered_stand (Register b ttl ∷ h) a =
    any_with a b (order_after h) ∙ ap (λ x. same a b || x) (registered_stand h a) ∙ by (same a b)
  where
    by : (x : Bool) → x || is_registered h a ≡ is_some (option_and_then registration_by (cond x (Some (record { time_to_live = ttl; ago = 0 })) (last_grant h a)))
    by true = sym (ap is_some (fresh ttl))
    by false = refl
registered_stand (Delete b ∷ h) a =
    any_filter (is_registered (Delete b ∷ h)) a (order_after h)
    ∙ ap (λ x. is_registered (Delete b ∷ h) a && x) (registered_stand h a)
    ∙ within (is_registered (Delete b ∷ h) a) (is_registered h a) (registered_before h a b)
registered_stand (Tick ∷ h) a =
    any_filter (is_registered (Tick ∷ h)) a (order_after h)
    ∙ ap (λ x. is_registered (Tick ∷ h) a && x) (registered_stand h a)
    ∙ within (is_registered (Tick ∷ h) a) (is_registered h a) (registered_before_tick h a)

-- ---- the rows of the table

found_in : (h : History) (a : BipAddr) (bs : List BipAddr)
    → lookup (same a) (filter_map (row_after h) bs) ≡ (if list_any (same a) bs then registration_after h a else None)
found_in h a [] = refl
found_in h a (b ∷ bs) = by (registration_after h b) refl (same a b) refl (found_in h a bs)
  where
    here : same a b ≡ true → registration_after h a ≡ registration_after h b
    here q = ap (registration_after h) (equal_of a b q)

    nothing : Option Registration
    nothing = None

    none : (x : Bool) → cond x nothing nothing ≡ nothing
    none true = refl
    none false = refl

    by : (o : Option Registration) → registration_after h b ≡ o → (x : Bool) → same a b ≡ x
        → lookup (same a) (filter_map (row_after h) bs) ≡ (if list_any (same a) bs then registration_after h a else None)
        → lookup (same a) (cons_option (row_after h b) (filter_map (row_after h) bs))
        ≡ (if same a b || list_any (same a) bs then registration_after h a else None)
    by None s true q ih =
        ap (λ o. lookup (same a) (cons_option (paired b o) (filter_map (row_after h) bs))) s ∙ ih
        ∙ ap (λ o. if list_any (same a) bs then o else None) (here q ∙ s) ∙ none (list_any (same a) bs)
        ∙ sym (ap (λ y. if y || list_any (same a) bs then registration_after h a else None) q ∙ here q ∙ s)
    by None s false q ih =
        ap (λ o. lookup (same a) (cons_option (paired b o) (filter_map (row_after h) bs))) s ∙ ih
        ∙ sym (ap (λ y. if y || list_any (same a) bs then registration_after h a else None) q)
    by (Some r) s true q ih =
        ap (λ o. lookup (same a) (cons_option (paired b o) (filter_map (row_after h) bs))) s
        ∙ ap (λ y. cond y (Some r) (lookup (same a) (filter_map (row_after h) bs))) q
        ∙ sym (ap (λ y. if y || list_any (same a) bs then registration_after h a else None) q ∙ here q ∙ s)
    by (Some r) s false q ih =
        ap (λ o. lookup (same a) (cons_option (paired b o) (filter_map (row_after h) bs))) s
        ∙ ap (λ y. cond y (Some r) (lookup (same a) (filter_map (row_after h) bs))) q ∙ ih
        ∙ sym (ap (λ y. if y || list_any (same a) bs then registration_after h a else None) q)

pub table_holds : (h : History) (a : BipAddr) → lookup (same a) (table_after h).rows ≡ registration_after h a
unfolding table_after
table_holds h a =
    found_in h a (order_after h) ∙ ap (λ x. if x then registration_after h a else None) (registered_stand h a) ∙ by (registration_after h a)
  where
    by : (o : Option Registration) → (if is_some o then o else None) ≡ o
    by None = refl
    by (Some r) = refl

-- ---- the order

below : (h : History) (a : BipAddr) → is_registered h a ≡ true → began_after h a < length h
below [] a r = absurd (true≢false (sym r))
below (Register b ttl ∷ h) a r = by (same a b) (is_registered h a) refl r (below h a)
  where
    by : (x y : Bool) → is_registered h a ≡ y
        → is_some (option_and_then registration_by (cond x (Some (record { time_to_live = ttl; ago = 0 })) (last_grant h a))) ≡ true
        → (is_registered h a ≡ true → began_after h a < length h)
        → (if x && not y then length h else began_after h a) < length (Register b ttl ∷ h)
    by true true e s ih = let lt = ih e in omega (arith, lt)
    by true false e s ih = omega arith
    by false y e s ih = let lt = ih s in omega (arith, lt)
below (Delete b ∷ h) a r = let lt = below h a (registered_before h a b r) in omega (arith, lt)
below (Tick ∷ h) a r = let lt = below h a (registered_before_tick h a r) in omega (arith, lt)

module _ (g h : History) (alike : (b : BipAddr) → is_registered h b ≡ true → began_after g b ≡ began_after h b) where
  each_alike : (a : BipAddr) (bs : List BipAddr) → began_after g a ≡ began_after h a → AreRegistered h bs
      → AllByRecursion (λ b. began_after h a < began_after h b) bs → AllByRecursion (λ b. began_after g a < began_after g b) bs
  each_alike a [] e r turn = tt
  each_alike a (b ∷ bs) e r turn = (omega (arith, e, alike b r.0, turn.0), each_alike a bs e r.1 turn.1)

  turn_alike : (bs : List BipAddr) → AreRegistered h bs → BeganInTurn h bs → BeganInTurn g bs
  turn_alike [] r turn = turn
  turn_alike (a ∷ bs) r turn = (each_alike a bs (alike a r.0) r.1 turn.0, turn_alike bs r.1 turn.1)

each_filter : (P : BipAddr → Type 0) (p : BipAddr → Bool) (bs : List BipAddr) → AllByRecursion P bs → AllByRecursion P (filter p bs)
each_filter P p [] all = tt
each_filter P p (b ∷ bs) all = by (p b) (each_filter P p bs all.1)
  where
    by : (x : Bool) → AllByRecursion P (filter p bs) → AllByRecursion P (cond x (b ∷ filter p bs) (filter p bs))
    by true rest = (all.0, rest)
    by false rest = rest

turn_filter : (h : History) (p : BipAddr → Bool) (bs : List BipAddr) → BeganInTurn h bs → BeganInTurn h (filter p bs)
turn_filter h p [] turn = turn
turn_filter h p (b ∷ bs) turn =
    by (p b) (each_filter (λ c. began_after h b < began_after h c) p bs turn.0) (turn_filter h p bs turn.1)
  where
    by : (x : Bool) → AllByRecursion (λ c. began_after h b < began_after h c) (filter p bs) → BeganInTurn h (filter p bs)
        → BeganInTurn h (cond x (b ∷ filter p bs) (filter p bs))
    by true first rest = (first, rest)
    by false first rest = rest

each_push : (P : BipAddr → Type 0) (bs : List BipAddr) (a : BipAddr) → AllByRecursion P bs → P a → AllByRecursion P (bs ++ a ∷ [])
each_push P [] a all it = (it, tt)
each_push P (b ∷ bs) a all it = (all.0, each_push P bs a all.1 it)

turn_push : (g : History) (bs : List BipAddr) (a : BipAddr) → BeganInTurn g bs → AllByRecursion (λ b. began_after g b < began_after g a) bs
    → BeganInTurn g (bs ++ a ∷ [])
turn_push g [] a turn under = (tt, tt)
turn_push g (b ∷ bs) a turn under =
    (each_push (λ c. began_after g b < began_after g c) bs a turn.0 under.0, turn_push g bs a turn.1 under.1)

pub order_of_beginnings : (h : History) → BeganInTurn h (order_after h)
unfolding order_after
order_of_beginnings [] = tt
order_of_beginnings (Register a ttl ∷ h) = by (list_any (same a) (order_after h)) refl (turn_alike g h alike (order_after h) (registered h) (order_of_beginnings h))
  where
    g : History
    g = Register a ttl ∷ h

    alike : (b : BipAddr) → is_registered h b ≡ true → began_after (Register a ttl ∷ h) b ≡ began_after h b
    alike b r = ap (λ y. if same b a && not y then length h else began_after h b) r ∙ still (same b a)
      where
        still : (x : Bool) → (if x && false then length h else began_after h b) ≡ began_after h b
        still true = refl
        still false = refl

    begins : is_registered h a ≡ false → began_after (Register a ttl ∷ h) a ≡ length h
    begins r = λ j. if own a j && not (r j) then length h else began_after h a

    under : (n : ℕ) → n ≡ length h → (bs : List BipAddr) → AreRegistered h bs → AllByRecursion (λ b. began_after (Register a ttl ∷ h) b < n) bs
    under n e [] r = tt
    under n e (b ∷ bs) r = (omega (arith, e, alike b r.0, below h b r.0), under n e bs r.1)

    by : (x : Bool) → list_any (same a) (order_after h) ≡ x → BeganInTurn (Register a ttl ∷ h) (order_after h)
        → BeganInTurn (Register a ttl ∷ h) (if x then order_after h else order_after h ++ a ∷ [])
    by true e turn = turn
    by false e turn =
        turn_push (Register a ttl ∷ h) (order_after h) a turn
        (under (began_after (Register a ttl ∷ h) a) (begins (sym (registered_stand h a) ∙ e)) (order_after h) (registered h))
order_of_beginnings (Delete a ∷ h) =
    turn_filter (Delete a ∷ h) (is_registered (Delete a ∷ h)) (order_after h)
    (turn_alike (Delete a ∷ h) h (λ b r. refl) (order_after h) (registered h) (order_of_beginnings h))
order_of_beginnings (Tick ∷ h) =
    turn_filter (Tick ∷ h) (is_registered (Tick ∷ h)) (order_after h)
    (turn_alike (Tick ∷ h) h (λ b r. refl) (order_after h) (registered h) (order_of_beginnings h))
