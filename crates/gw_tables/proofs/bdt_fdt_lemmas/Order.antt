-- What one more act does to the foreign devices that a history leaves.
use Rattle.std.proofs.Common.{◌≡◌, ◌∙◌, ℕ, ◌+◌, ◌-◌, Bool, true, false, cond, ◌||◌, List, [], ◌∷◌, ◌++◌, Option, Some, None, is_some, if◌then◌else◌, nat_lt, refl, sym, ap, subst, true≢false, filter, filter_map, arith, option_map}
use Rattle.std.specs.List.{list_any, IsDistinct, AllByRecursion, cons_option}
use Rattle.std.specs.Option.{option_and_then}
use Rattle.std.specs.Map.{remove_entry}
use Rattle.std.proofs.lemmas.Bool.{ltb-true, ltb-false, lt-ltb}
use Rattle.std.proofs.lemmas.Map.Keys.{IsDistinct-push, IsDistinct-head, IsDistinct-tail}
use Rattle.indexmap.specs.IndexMap.{insert_entry}
use Rattle.gw_addr.specs.declared.bip.BipAddr.{BipAddr}
use Rattle.gw_tables.specs.declared.bdt_fdt.fdt.TheConstants.{GRACE}
use Rattle.gw_tables.specs.bdt_fdt.Registrations.{Registration, Registered, Registrations, same, granted, with_registration, without, row_later, with_tick}
use Rattle.gw_tables.specs.bdt_fdt.History.{Register, Delete, Tick, History, Grant, longer_ago, last_grant, registration_by, registration_after, is_registered, with_address, order_after, row_after, ticks_in, table_after, IsStateAfter}
use Rattle.gw_tables.proofs.bdt_fdt_lemmas.Same.{own, equal_of, flipped, same_equiv}

-- addresses that are each registered after a history
abbrev pub AreRegistered : History → List BipAddr → Type 0
AreRegistered h = AllByRecursion (λ a. is_registered h a ≡ true)

abbrev pub paired : BipAddr → Option Registration → Option (BipAddr × Registration)
paired a r = option_map (λ registration. (a, registration)) r

-- ---- a registration

-- a grant of now
pub fresh : (ttl : ℕ) → registration_by (record { time_to_live = ttl; ago = 0 }) ≡ Some (granted ttl)
fresh ttl = λ j. if soon j then Some (record { time_to_live = ttl; left = whole j }) else None
  where
    soon : nat_lt 0 (ttl + GRACE) ≡ true
    soon = lt-ltb 0 (ttl + GRACE) (omega arith)

    whole : ttl + GRACE - 0 ≡ ttl + GRACE
    whole = omega arith

module _ (h : History) (a : BipAddr) (ttl : ℕ) where
  -- the registration of one address changes no other's row
  other : (b : BipAddr) → same a b ≡ false → row_after (Register a ttl ∷ h) b ≡ row_after h b
  other b e =
      ap (λ x. paired b (option_and_then registration_by (cond x (Some (record { time_to_live = ttl; ago = 0 })) (last_grant h b))))
      (flipped b a ∙ e)

  newest : (b : BipAddr) → same a b ≡ true → row_after (Register a ttl ∷ h) b ≡ Some (b, granted ttl)
  newest b e =
      ap (λ x. paired b (option_and_then registration_by (cond x (Some (record { time_to_live = ttl; ago = 0 })) (last_grant h b))))
      (flipped b a ∙ e)
      ∙ ap (paired b) (fresh ttl)

  others : (bs : List BipAddr) → AllByRecursion (λ b. same a b ≡ false) bs
      → filter_map (row_after (Register a ttl ∷ h)) bs ≡ filter_map (row_after h) bs
  others [] apart = refl
  others (b ∷ bs) apart = λ j. cons_option (other b apart.0 j) (others bs apart.1 j)

  there : (bs : List BipAddr) (b : BipAddr) → same a b ≡ true → with_address (b ∷ bs) a ≡ b ∷ bs
  there bs b e = ap (λ x. if x || list_any (same a) bs then b ∷ bs else b ∷ bs ++ a ∷ []) e

  further : (bs : List BipAddr) (b : BipAddr) → same a b ≡ false → with_address (b ∷ bs) a ≡ b ∷ with_address bs a
  further bs b e = ap (λ x. if x || list_any (same a) bs then b ∷ bs else b ∷ bs ++ a ∷ []) e ∙ by (list_any (same a) bs)
    where
      by : (x : Bool) → (if x then b ∷ bs else b ∷ bs ++ a ∷ []) ≡ b ∷ (if x then bs else bs ++ a ∷ [])
      by true = refl
      by false = refl

  -- among addresses that are each there once and each registered, the one that registers takes the new time
  put : (bs : List BipAddr) → IsDistinct same bs → AreRegistered h bs
      → filter_map (row_after (Register a ttl ∷ h)) (with_address bs a) ≡ insert_entry same (filter_map (row_after h) bs) a (granted ttl)
  put [] d r = ap (λ o. cons_option o []) (newest a (own a))
  put (b ∷ bs) d r = by (same a b) refl (registration_after h b) refl (put bs (IsDistinct-tail same b bs d) r.1)
    where
      by : (x : Bool) → same a b ≡ x → (o : Option Registration) → registration_after h b ≡ o
          → filter_map (row_after (Register a ttl ∷ h)) (with_address bs a) ≡ insert_entry same (filter_map (row_after h) bs) a (granted ttl)
          → filter_map (row_after (Register a ttl ∷ h)) (with_address (b ∷ bs) a) ≡ insert_entry same (filter_map (row_after h) (b ∷ bs)) a (granted ttl)
      by x e None s ih = absurd (true≢false (sym r.0 ∙ ap is_some s))
      by true e (Some standing) s ih =
          let apart : AllByRecursion (λ c. same a c ≡ false) bs =
          subst (λ k. AllByRecursion (λ c. same k c ≡ false) bs) (sym (equal_of a b e)) (IsDistinct-head same b bs d) in
          ap (filter_map (row_after (Register a ttl ∷ h))) (there bs b e)
          ∙ (λ j. cons_option (newest b e j) (others bs apart j))
          ∙ sym (ap (λ o. insert_entry same (cons_option (paired b o) (filter_map (row_after h) bs)) a (granted ttl)) s
          ∙ ap (λ x. if x then (b, granted ttl) ∷ filter_map (row_after h) bs else (b, standing) ∷ insert_entry same (filter_map (row_after h) bs) a (granted ttl)) e)
      by false e (Some standing) s ih =
          ap (filter_map (row_after (Register a ttl ∷ h))) (further bs b e)
          ∙ (λ j. cons_option ((other b e ∙ ap (paired b) s) j) (ih j))
          ∙ sym (ap (λ o. insert_entry same (cons_option (paired b o) (filter_map (row_after h) bs)) a (granted ttl)) s
          ∙ ap (λ x. if x then (b, granted ttl) ∷ filter_map (row_after h) bs else (b, standing) ∷ insert_entry same (filter_map (row_after h) bs) a (granted ttl)) e)

-- ---- what leaves out who is no longer registered

-- rows of those who are registered are all rows
of_registered : (h : History) (bs : List BipAddr) → filter_map (row_after h) (filter (is_registered h) bs) ≡ filter_map (row_after h) bs
of_registered h [] = refl
of_registered h (b ∷ bs) = by (registration_after h b) refl (of_registered h bs)
  where
    by : (o : Option Registration) → registration_after h b ≡ o
        → filter_map (row_after h) (filter (is_registered h) bs) ≡ filter_map (row_after h) bs
        → filter_map (row_after h) (cond (is_registered h b) (b ∷ filter (is_registered h) bs) (filter (is_registered h) bs)) ≡ cons_option (row_after h b) (filter_map (row_after h) bs)
    by None s ih =
        ap (λ o. filter_map (row_after h) (cond (is_some o) (b ∷ filter (is_registered h) bs) (filter (is_registered h) bs))) s
        ∙ ih ∙ sym (ap (λ o. cons_option (paired b o) (filter_map (row_after h) bs)) s)
    by (Some r) s ih =
        ap (λ o. filter_map (row_after h) (cond (is_some o) (b ∷ filter (is_registered h) bs) (filter (is_registered h) bs))) s
        ∙ ap (cons_option (row_after h b)) ih

apart_filter : (p : BipAddr → Bool) (a : BipAddr) (bs : List BipAddr) → AllByRecursion (λ b. same a b ≡ false) bs
    → AllByRecursion (λ b. same a b ≡ false) (filter p bs)
apart_filter p a [] apart = tt
apart_filter p a (b ∷ bs) apart = by (p b) (apart_filter p a bs apart.1)
  where
    by : (x : Bool) → AllByRecursion (λ c. same a c ≡ false) (filter p bs)
        → AllByRecursion (λ c. same a c ≡ false) (cond x (b ∷ filter p bs) (filter p bs))
    by true rest = (apart.0, rest)
    by false rest = rest

distinct_filter : (p : BipAddr → Bool) (bs : List BipAddr) → IsDistinct same bs → IsDistinct same (filter p bs)
unfolding IsDistinct
distinct_filter p [] d = tt
distinct_filter p (b ∷ bs) d = by (p b) (apart_filter p b bs d.0) (distinct_filter p bs d.1)
  where
    by : (x : Bool) → AllByRecursion (λ c. same b c ≡ false) (filter p bs) → IsDistinct same (filter p bs)
        → IsDistinct same (cond x (b ∷ filter p bs) (filter p bs))
    by true apart rest = (apart, rest)
    by false apart rest = rest

registered_filter : (h : History) (bs : List BipAddr) → AreRegistered h (filter (is_registered h) bs)
registered_filter h [] = tt
registered_filter h (b ∷ bs) = by (is_registered h b) refl (registered_filter h bs)
  where
    by : (x : Bool) → is_registered h b ≡ x → AreRegistered h (filter (is_registered h) bs)
        → AreRegistered h (cond x (b ∷ filter (is_registered h) bs) (filter (is_registered h) bs))
    by true e rest = (e, rest)
    by false e rest = rest

-- ---- a deletion

module _ (h : History) (a : BipAddr) where
  unlike : (b : BipAddr) → same a b ≡ false → row_after (Delete a ∷ h) b ≡ row_after h b
  unlike b e = ap (λ x. paired b (option_and_then registration_by (cond x None (last_grant h b)))) (flipped b a ∙ e)

  gone : (b : BipAddr) → same a b ≡ true → row_after (Delete a ∷ h) b ≡ None
  gone b e = ap (λ x. paired b (option_and_then registration_by (cond x None (last_grant h b)))) (flipped b a ∙ e)

  unlikes : (bs : List BipAddr) → AllByRecursion (λ b. same a b ≡ false) bs
      → filter_map (row_after (Delete a ∷ h)) bs ≡ filter_map (row_after h) bs
  unlikes [] apart = refl
  unlikes (b ∷ bs) apart = λ j. cons_option (unlike b apart.0 j) (unlikes bs apart.1 j)

  taken : (bs : List BipAddr) → IsDistinct same bs → AreRegistered h bs
      → filter_map (row_after (Delete a ∷ h)) bs ≡ remove_entry (same a) (filter_map (row_after h) bs)
  taken [] d r = refl
  taken (b ∷ bs) d r = by (same a b) refl (registration_after h b) refl (taken bs (IsDistinct-tail same b bs d) r.1)
    where
      by : (x : Bool) → same a b ≡ x → (o : Option Registration) → registration_after h b ≡ o
          → filter_map (row_after (Delete a ∷ h)) bs ≡ remove_entry (same a) (filter_map (row_after h) bs)
          → filter_map (row_after (Delete a ∷ h)) (b ∷ bs) ≡ remove_entry (same a) (filter_map (row_after h) (b ∷ bs))
      by x e None s ih = absurd (true≢false (sym r.0 ∙ ap is_some s))
      by true e (Some standing) s ih =
          let apart : AllByRecursion (λ c. same a c ≡ false) bs =
          subst (λ k. AllByRecursion (λ c. same k c ≡ false) bs) (sym (equal_of a b e)) (IsDistinct-head same b bs d) in
          (λ j. cons_option (gone b e j) (unlikes bs apart j))
          ∙ sym (ap (λ o. remove_entry (same a) (cons_option (paired b o) (filter_map (row_after h) bs))) s
          ∙ ap (λ x. cond x (filter_map (row_after h) bs) ((b, standing) ∷ remove_entry (same a) (filter_map (row_after h) bs))) e)
      by false e (Some standing) s ih =
          (λ j. cons_option ((unlike b e ∙ ap (paired b) s) j) (ih j))
          ∙ sym (ap (λ o. remove_entry (same a) (cons_option (paired b o) (filter_map (row_after h) bs))) s
          ∙ ap (λ x. cond x (filter_map (row_after h) bs) ((b, standing) ∷ remove_entry (same a) (filter_map (row_after h) bs))) e)

-- ---- a tick

module _ (h : History) where
  -- the row of an address, one tick later
  one_later : (b : BipAddr) → row_after (Tick ∷ h) b ≡ option_and_then row_later (row_after h b)
  one_later b = of (last_grant h b)
    where
      of : (o : Option Grant) → paired b (option_and_then registration_by (option_map longer_ago o)) ≡ option_and_then row_later (paired b (option_and_then registration_by o))
      of None = refl
      of (Some g) = by (nat_lt g.ago whole) refl (nat_lt (g.ago + 1) whole) refl (nat_lt 1 (whole - g.ago)) refl
        where
          whole : ℕ
          whole = g.time_to_live + GRACE

          less : whole - (g.ago + 1) ≡ whole - g.ago - 1
          less = omega arith

          reg : ℕ → Registration
          reg n = record { time_to_live = g.time_to_live; left = n }

          by : (x : Bool) → nat_lt g.ago whole ≡ x → (y : Bool) → nat_lt (g.ago + 1) whole ≡ y → (z : Bool) → nat_lt 1 (whole - g.ago) ≡ z
              → paired b (if y then Some (reg (whole - (g.ago + 1))) else None) ≡ option_and_then row_later (paired b (if x then Some (reg (whole - g.ago)) else None))
          by false e false f z k = refl
          by false e true f z k = let n = ltb-false g.ago whole e in let m = ltb-true (g.ago + 1) whole f in absurd (omega (arith, n, m))
          by true e true f true k = ap (λ n. Some (b, reg n)) less ∙ sym (ap (λ x. if x then Some (b, reg (whole - g.ago - 1)) else None) k)
          by true e true f false k = let n = ltb-false 1 (whole - g.ago) k in let m = ltb-true (g.ago + 1) whole f in absurd (omega (arith, n, m))
          by true e false f true k = let n = ltb-true 1 (whole - g.ago) k in let m = ltb-false (g.ago + 1) whole f in absurd (omega (arith, n, m))
          by true e false f false k = sym (ap (λ x. if x then Some (b, reg (whole - g.ago - 1)) else None) k)

  all_later : (bs : List BipAddr) → filter_map (row_after (Tick ∷ h)) bs ≡ filter_map row_later (filter_map (row_after h) bs)
  all_later [] = refl
  all_later (b ∷ bs) = (λ j. cons_option (one_later b j) (all_later bs j)) ∙ by (row_after h b)
    where
      by : (o : Option (BipAddr × Registration)) → cons_option (option_and_then row_later o) (filter_map row_later (filter_map (row_after h) bs))
          ≡ filter_map row_later (cons_option o (filter_map (row_after h) bs))
      by None = refl
      by (Some row) = refl

-- ---- every history

-- who is registered is once in the order
pub once : (h : History) → IsDistinct same (order_after h)
unfolding order_after IsDistinct
once [] = tt
once (Register a ttl ∷ h) = by (list_any (same a) (order_after h)) refl (once h)
  where
    by : (x : Bool) → list_any (same a) (order_after h) ≡ x → IsDistinct same (order_after h)
        → IsDistinct same (if x then order_after h else order_after h ++ a ∷ [])
    by true e d = d
    by false e d = IsDistinct-push same_equiv (order_after h) a d e
once (Delete a ∷ h) = distinct_filter (is_registered (Delete a ∷ h)) (order_after h) (once h)
once (Tick ∷ h) = distinct_filter (is_registered (Tick ∷ h)) (order_after h) (once h)

-- who is in the order is registered
pub registered : (h : History) → AreRegistered h (order_after h)
unfolding order_after
registered [] = tt
registered (Register a ttl ∷ h) = by (list_any (same a) (order_after h)) (registered h)
  where
    still : (x : Bool) (o : Option Grant) → is_some (option_and_then registration_by o) ≡ true
        → is_some (option_and_then registration_by (cond x (Some (record { time_to_live = ttl; ago = 0 })) o)) ≡ true
    still true o e = ap is_some (fresh ttl)
    still false o e = e

    each : (bs : List BipAddr) → AreRegistered h bs → AreRegistered (Register a ttl ∷ h) bs
    each [] r = tt
    each (b ∷ bs) r = (still (same b a) (last_grant h b) r.0, each bs r.1)

    last : (bs : List BipAddr) → AreRegistered (Register a ttl ∷ h) bs → AreRegistered (Register a ttl ∷ h) (bs ++ a ∷ [])
    last [] r = (ap (λ x. is_some (option_and_then registration_by (cond x (Some (record { time_to_live = ttl; ago = 0 })) (last_grant h a)))) (own a) ∙ ap is_some (fresh ttl), tt)
    last (b ∷ bs) r = (r.0, last bs r.1)

    by : (x : Bool) → AreRegistered h (order_after h) → AreRegistered (Register a ttl ∷ h) (if x then order_after h else order_after h ++ a ∷ [])
    by true r = each (order_after h) r
    by false r = last (order_after h) (each (order_after h) r)
registered (Delete a ∷ h) = registered_filter (Delete a ∷ h) (order_after h)
registered (Tick ∷ h) = registered_filter (Tick ∷ h) (order_after h)

-- ---- one act more

abbrev table : ℕ → Registered → Registrations
table ticks rows = record { ticks = ticks; rows = rows }

pub table_registered : (h : History) (a : BipAddr) (ttl : ℕ) → with_registration (table_after h) a ttl ≡ table_after (Register a ttl ∷ h)
unfolding table_after order_after ticks_in
table_registered h a ttl = ap (table (ticks_in h)) (sym (put h a ttl (order_after h) (once h) (registered h)))

pub table_deleted : (h : History) (a : BipAddr) → without (table_after h) a ≡ table_after (Delete a ∷ h)
unfolding table_after order_after ticks_in
table_deleted h a =
    ap (table (ticks_in h)) (sym (of_registered (Delete a ∷ h) (order_after h) ∙ taken h a (order_after h) (once h) (registered h)))

pub table_later : (h : History) → with_tick (table_after h) ≡ table_after (Tick ∷ h)
unfolding table_after order_after ticks_in
table_later h = ap (table (ticks_in h + 1)) (sym (of_registered (Tick ∷ h) (order_after h) ∙ all_later h (order_after h)))

pub after_registration : (t u : Registrations) (h : History) (a : BipAddr) (ttl : ℕ)
    → u ≡ with_registration t a ttl → IsStateAfter t h → IsStateAfter u (Register a ttl ∷ h)
after_registration t u h a ttl e s = e ∙ ap (λ w. with_registration w a ttl) s ∙ table_registered h a ttl

pub after_deletion : (t u : Registrations) (h : History) (a : BipAddr)
    → u ≡ without t a → IsStateAfter t h → IsStateAfter u (Delete a ∷ h)
after_deletion t u h a e s = e ∙ ap (λ w. without w a) s ∙ table_deleted h a

pub after_tick : (t u : Registrations) (h : History) → u ≡ with_tick t → IsStateAfter t h → IsStateAfter u (Tick ∷ h)
after_tick t u h e s = e ∙ ap with_tick s ∙ table_later h
