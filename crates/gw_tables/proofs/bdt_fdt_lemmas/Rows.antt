-- What the leases that are kept say of the table.
use Rattle.std.proofs.Common.{◌≡◌, ◌∙◌, ℕ, ◌+◌, ◌-◌, ◌<◌, ◌≤◌, ◌^◌, Bool, true, false, cond, ◌||◌, [], ◌∷◌, length, map, Option, Some, None, is_some, if◌then◌else◌, nat_lt, refl, sym, ap, filter, filter_map, arith, option_map, IsTrue}
use Rattle.std.specs.List.{AllByRecursion, cons_option}
use Rattle.std.specs.Map.{lookup, remove_entry, keys_of}
use Rattle.std.proofs.lemmas.Bool.{ltb-true, ltb-false, lt-ltb}
use Rattle.std.proofs.lemmas.Map.Made.{lookup-map_values}
use Rattle.indexmap.specs.IndexMap.{insert_entry}
use Rattle.gw_addr.specs.declared.bip.BipAddr.{BipAddr}
use Rattle.gw_tables.specs.declared.bdt_fdt.leases.Lease.{Lease}
use Rattle.gw_tables.specs.declared.bdt_fdt.fdt.TheConstants.{GRACE, MAX_REGISTRATIONS}
use Rattle.gw_tables.specs.bdt_fdt.Registrations.{Registration, same, contains, has_room, with_registration, without, with_less, row_later, with_tick}
use Rattle.gw_tables.specs.bdt_fdt.internal.Leases.{LeaseList, row_at, table_at, holds_at, is_granted, AreKept}

pub keyed : (t : ℕ) (es : LeaseList) → keys_of (map (row_at t) es) ≡ keys_of es
keyed t [] = refl
keyed t (e ∷ es) = ap (λ ks. e.0 ∷ ks) (keyed t es)

-- a lease of a time to live that starts to be due with a tick, before its grace
abbrev pub lease_with : ℕ → ℕ → Lease
lease_with ttl due = record { time_to_live = ttl; deadline = due + GRACE }

-- the lease of a registration that is granted after so many ticks
abbrev pub lease_of : ℕ → ℕ → Lease
lease_of ticks ttl = record { time_to_live = ttl; deadline = ticks + ttl + GRACE }

abbrev standing : ℕ → Lease → Registration
standing t l = record { time_to_live = l.time_to_live; left = l.deadline - t }

abbrev reg : ℕ → ℕ → Registration
reg ttl n = record { time_to_live = ttl; left = n }

-- an address is registered if it has a lease
pub contained : (t : ℕ) (es : LeaseList) (a : BipAddr) → contains (table_at t es) a ≡ is_some (lookup (same a) es)
contained t es a = ap is_some (lookup-map_values (standing t) (same a) es) ∙ by (lookup (same a) es)
  where
    by : (o : Option Lease) → is_some (option_map (standing t) o) ≡ is_some o
    by None = refl
    by (Some l) = refl

pub counted : (t : ℕ) (es : LeaseList) → length (map (row_at t) es) ≡ length es
counted t [] = refl
counted t (e ∷ es) = omega (arith, counted t es)

-- ---- a registration

mapped-insert : (t : ℕ) (es : LeaseList) (a : BipAddr) (l : Lease)
    → map (row_at t) (insert_entry same es a l) ≡ insert_entry same (map (row_at t) es) a (standing t l)
mapped-insert t [] a l = refl
mapped-insert t (e ∷ es) a l = by (same a e.0) (mapped-insert t es a l)
  where
    by : (x : Bool) → map (row_at t) (insert_entry same es a l) ≡ insert_entry same (map (row_at t) es) a (standing t l)
        → map (row_at t) (if x then (e.0, l) ∷ es else e ∷ insert_entry same es a l)
        ≡ (if x then (e.0, standing t l) ∷ map (row_at t) es else row_at t e ∷ insert_entry same (map (row_at t) es) a (standing t l))
    by true ih = refl
    by false ih = ap (λ rows. row_at t e ∷ rows) ih

pub rows_registered : (t : ℕ) (es : LeaseList) (a : BipAddr) (ttl : ℕ)
    → table_at t (insert_entry same es a (lease_of t ttl)) ≡ with_registration (table_at t es) a ttl
rows_registered t es a ttl =
    ap (λ rows. record { ticks = t; rows = rows })
    (mapped-insert t es a (lease_of t ttl) ∙ ap (λ n. insert_entry same (map (row_at t) es) a (reg ttl n)) to_come)
  where
    to_come : t + ttl + GRACE - t ≡ ttl + GRACE
    to_come = omega arith

-- one more lease is one more row, unless the address had one
pub length-insert_entry : (es : LeaseList) (a : BipAddr) (l : Lease)
    → length (insert_entry same es a l) ≡ length es + (if is_some (lookup (same a) es) then 0 else 1)
length-insert_entry [] a l = refl
length-insert_entry (e ∷ es) a l = by (same a e.0) (length-insert_entry es a l)
  where
    by : (x : Bool) → length (insert_entry same es a l) ≡ length es + (if is_some (lookup (same a) es) then 0 else 1)
        → length (if x then (e.0, l) ∷ es else e ∷ insert_entry same es a l)
        ≡ length (e ∷ es) + (if is_some (cond x (Some e.1) (lookup (same a) es)) then 0 else 1)
    by true ih = omega arith
    by false ih = omega (arith, ih)

hold-insert : (t : ℕ) (es : LeaseList) (a : BipAddr) (l : Lease) → t < l.deadline
    → AllByRecursion (λ e. IsTrue (holds_at t e)) es → AllByRecursion (λ e. IsTrue (holds_at t e)) (insert_entry same es a l)
hold-insert t [] a l lt hold = (lt-ltb t l.deadline lt, tt)
hold-insert t (e ∷ es) a l lt hold = by (same a e.0) (hold-insert t es a l lt hold.1)
  where
    by : (x : Bool) → AllByRecursion (λ f. IsTrue (holds_at t f)) (insert_entry same es a l)
        → AllByRecursion (λ f. IsTrue (holds_at t f)) (if x then (e.0, l) ∷ es else e ∷ insert_entry same es a l)
    by true rest = (lt-ltb t l.deadline lt, hold.1)
    by false rest = (hold.0, rest)

granted-insert : (t : ℕ) (es : LeaseList) (a : BipAddr) (l : Lease) → l.deadline ≤ t + l.time_to_live + GRACE
    → AllByRecursion (is_granted t) es → AllByRecursion (is_granted t) (insert_entry same es a l)
granted-insert t [] a l le each = (le, tt)
granted-insert t (e ∷ es) a l le each = by (same a e.0) (granted-insert t es a l le each.1)
  where
    by : (x : Bool) → AllByRecursion (is_granted t) (insert_entry same es a l)
        → AllByRecursion (is_granted t) (if x then (e.0, l) ∷ es else e ∷ insert_entry same es a l)
    by true rest = (le, each.1)
    by false rest = (each.0, rest)

-- leases stay kept if there is room for the one that is granted
pub kept_registered : (t : ℕ) (es : LeaseList) (a : BipAddr) (ttl : ℕ)
    → has_room (table_at t es) a ≡ true
    → AreKept t es → AreKept t (insert_entry same es a (lease_of t ttl))
kept_registered t es a ttl room kept = record {
  few = by (is_some (lookup (same a) es))
      ((λ j. sym (contained t es a) j || nat_lt (sym (counted t es) j) MAX_REGISTRATIONS) ∙ room)
      (length-insert_entry es a (lease_of t ttl));
  below = kept.below;
  hold = hold-insert t es a (lease_of t ttl) (omega arith) kept.hold;
  granted = granted-insert t es a (lease_of t ttl) (omega arith) kept.granted;
}
  where
    by : (x : Bool) → x || nat_lt (length es) MAX_REGISTRATIONS ≡ true
        → length (insert_entry same es a (lease_of t ttl)) ≡ length es + (if x then 0 else 1)
        → length (insert_entry same es a (lease_of t ttl)) ≤ MAX_REGISTRATIONS
    by true r e = omega (arith, e, kept.few)
    by false r e = let lt = ltb-true (length es) MAX_REGISTRATIONS r in omega (arith, e, lt)

-- ---- a deletion

mapped-remove : (t : ℕ) (es : LeaseList) (a : BipAddr)
    → map (row_at t) (remove_entry (same a) es) ≡ remove_entry (same a) (map (row_at t) es)
mapped-remove t [] a = refl
mapped-remove t (e ∷ es) a = by (same a e.0) (mapped-remove t es a)
  where
    by : (x : Bool) → map (row_at t) (remove_entry (same a) es) ≡ remove_entry (same a) (map (row_at t) es)
        → map (row_at t) (cond x es (e ∷ remove_entry (same a) es)) ≡ cond x (map (row_at t) es) (row_at t e ∷ remove_entry (same a) (map (row_at t) es))
    by true ih = refl
    by false ih = ap (λ rows. row_at t e ∷ rows) ih

pub rows_deleted : (t : ℕ) (es : LeaseList) (a : BipAddr) → table_at t (remove_entry (same a) es) ≡ without (table_at t es) a
rows_deleted t es a = ap (λ rows. record { ticks = t; rows = rows }) (mapped-remove t es a)

hold-remove : (t : ℕ) (es : LeaseList) (a : BipAddr) → AllByRecursion (λ e. IsTrue (holds_at t e)) es
    → AllByRecursion (λ e. IsTrue (holds_at t e)) (remove_entry (same a) es)
hold-remove t [] a hold = tt
hold-remove t (e ∷ es) a hold = by (same a e.0) (hold-remove t es a hold.1)
  where
    by : (x : Bool) → AllByRecursion (λ f. IsTrue (holds_at t f)) (remove_entry (same a) es)
        → AllByRecursion (λ f. IsTrue (holds_at t f)) (cond x es (e ∷ remove_entry (same a) es))
    by true rest = hold.1
    by false rest = (hold.0, rest)

granted-remove : (t : ℕ) (es : LeaseList) (a : BipAddr) → AllByRecursion (is_granted t) es
    → AllByRecursion (is_granted t) (remove_entry (same a) es)
granted-remove t [] a each = tt
granted-remove t (e ∷ es) a each = by (same a e.0) (granted-remove t es a each.1)
  where
    by : (x : Bool) → AllByRecursion (is_granted t) (remove_entry (same a) es)
        → AllByRecursion (is_granted t) (cond x es (e ∷ remove_entry (same a) es))
    by true rest = each.1
    by false rest = (each.0, rest)

few-remove : (es : LeaseList) (a : BipAddr) → length (remove_entry (same a) es) ≤ length es
few-remove [] a = omega arith
few-remove (e ∷ es) a = by (same a e.0) (few-remove es a)
  where
    by : (x : Bool) → length (remove_entry (same a) es) ≤ length es → length (cond x es (e ∷ remove_entry (same a) es)) ≤ length (e ∷ es)
    by true ih = omega arith
    by false ih = omega (arith, ih)

pub kept_deleted : (t : ℕ) (es : LeaseList) (a : BipAddr) → AreKept t es → AreKept t (remove_entry (same a) es)
kept_deleted t es a kept = record {
  few = omega (arith, few-remove es a, kept.few);
  below = kept.below;
  hold = hold-remove t es a kept.hold;
  granted = granted-remove t es a kept.granted;
}

-- ---- a tick

mapped-later : (t : ℕ) (es : LeaseList)
    → map (row_at (t + 1)) (filter (holds_at (t + 1)) es) ≡ filter_map row_later (map (row_at t) es)
mapped-later t [] = refl
mapped-later t (e ∷ es) =
    by (holds_at (t + 1) e) refl (nat_lt 1 (e.1.deadline - t)) refl (mapped-later t es)
  where
    less : e.1.deadline - (t + 1) ≡ e.1.deadline - t - 1
    less = omega arith

    by : (x : Bool) → nat_lt (t + 1) e.1.deadline ≡ x → (y : Bool) → nat_lt 1 (e.1.deadline - t) ≡ y
        → map (row_at (t + 1)) (filter (holds_at (t + 1)) es) ≡ filter_map row_later (map (row_at t) es)
        → map (row_at (t + 1)) (cond x (e ∷ filter (holds_at (t + 1)) es) (filter (holds_at (t + 1)) es))
        ≡ cons_option (if y then Some (e.0, with_less (row_at t e).1) else None) (filter_map row_later (map (row_at t) es))
    by true p true q ih = λ j. (e.0, reg e.1.time_to_live (less j)) ∷ ih j
    by false p false q ih = ih
    by true p false q ih =
        let n = ltb-true (t + 1) e.1.deadline p in
        let m = ltb-false 1 (e.1.deadline - t) q in
        absurd (omega (arith, n, m))
    by false p true q ih =
        let n = ltb-false (t + 1) e.1.deadline p in
        let m = ltb-true 1 (e.1.deadline - t) q in
        absurd (omega (arith, n, m))

pub rows_later : (t : ℕ) (es : LeaseList) → table_at (t + 1) (filter (holds_at (t + 1)) es) ≡ with_tick (table_at t es)
rows_later t es = ap (λ rows. record { ticks = t + 1; rows = rows }) (mapped-later t es)

hold-later : (t : ℕ) (es : LeaseList) → AllByRecursion (λ e. IsTrue (holds_at t e)) (filter (holds_at t) es)
hold-later t [] = tt
hold-later t (e ∷ es) = by (holds_at t e) refl (hold-later t es)
  where
    by : (x : Bool) → holds_at t e ≡ x → AllByRecursion (λ f. IsTrue (holds_at t f)) (filter (holds_at t) es)
        → AllByRecursion (λ f. IsTrue (holds_at t f)) (cond x (e ∷ filter (holds_at t) es) (filter (holds_at t) es))
    by true p rest = (p, rest)
    by false p rest = rest

granted-later : (t : ℕ) (es : LeaseList) → AllByRecursion (is_granted t) es
    → AllByRecursion (is_granted (t + 1)) (filter (holds_at (t + 1)) es)
granted-later t [] each = tt
granted-later t (e ∷ es) each = by (holds_at (t + 1) e) (granted-later t es each.1)
  where
    by : (x : Bool) → AllByRecursion (is_granted (t + 1)) (filter (holds_at (t + 1)) es)
        → AllByRecursion (is_granted (t + 1)) (cond x (e ∷ filter (holds_at (t + 1)) es) (filter (holds_at (t + 1)) es))
    by true rest = (omega (arith, each.0), rest)
    by false rest = rest

few-later : (t : ℕ) (es : LeaseList) → length (filter (holds_at t) es) ≤ length es
few-later t [] = omega arith
few-later t (e ∷ es) = by (holds_at t e) (few-later t es)
  where
    by : (x : Bool) → length (filter (holds_at t) es) ≤ length es
        → length (cond x (e ∷ filter (holds_at t) es) (filter (holds_at t) es)) ≤ length (e ∷ es)
    by true ih = omega (arith, ih)
    by false ih = omega (arith, ih)

pub kept_later : (t : ℕ) (es : LeaseList) → t < 2 ^ 63 → AreKept t es → AreKept (t + 1) (filter (holds_at (t + 1)) es)
kept_later t es lt kept = record {
  few = omega (arith, few-later (t + 1) es, kept.few);
  below = omega (arith, lt);
  hold = hold-later (t + 1) es;
  granted = granted-later t es kept.granted;
}
