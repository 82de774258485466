-- Devices that are kept and restored.
use Rattle.std.proofs.Common.{◌≡◌, ◌∙◌, ℕ, zero, suc, ◌+◌, ◌-◌, ◌<◌, ◌≤◌, ◌^◌, Bool, true, false, not, ◌&&◌, ◌||◌, List, [], ◌∷◌, length, map, take, get_or, if◌then◌else◌, nat_lt, refl, sym, ap, true≢false, arith, IsTrue}
use Rattle.std.specs.Prelude.{nat_le}
use Rattle.std.specs.List.{list_any, list_all, AllByRecursion, IsDistinct}
use Rattle.std.specs.Map.{keys_of}
use Rattle.std.proofs.lemmas.Bool.{and_parts, and_from, or_parts, ltb-true, lt-ltb, leb-true, le-leb}
use Rattle.std.proofs.lemmas.Map.Keys.{IsDistinct-head, IsDistinct-tail}
use Rattle.indexmap.specs.IndexMap.{insert_entry}
use Rattle.gw_addr.specs.declared.bip.BipAddr.{BipAddr}
use Rattle.gw_tables.specs.declared.bdt_fdt.kept.KeptDevice.{KeptDevice}
use Rattle.gw_tables.specs.declared.bdt_fdt.fdt.TheConstants.{GRACE, MAX_REGISTRATIONS}
use Rattle.gw_tables.specs.bdt_fdt.Registrations.{Registration, Registrations, same}
use Rattle.gw_tables.specs.declared.bdt_fdt.leases.Lease.{Lease}
use Rattle.gw_tables.specs.bdt_fdt.internal.Leases.{LeaseList, AreKept, holds_at, is_granted, lease_kept, row_at, table_at}
use Rattle.gw_tables.specs.bdt_fdt.Kept.{kept, row_of, restored, is_due, is_of_device, repeat_address, are_restorable}
use Rattle.gw_tables.proofs.bdt_fdt_lemmas.Same.{flipped}

-- ---- restored

no_not : (b : Bool) → not b ≡ true → b ≡ false
no_not true e = absurd (true≢false (sym e))
no_not false e = refl

-- what can be restored
pub parts : (ds : List KeptDevice) → are_restorable ds ≡ true
    → (length ds ≤ MAX_REGISTRATIONS) × (list_all is_due ds ≡ true) × (repeat_address ds ≡ false)
parts ds e =
    let outer = and_parts (nat_le (length ds) MAX_REGISTRATIONS) (list_all is_due ds && not (repeat_address ds)) e in
    let inner = and_parts (list_all is_due ds) (not (repeat_address ds)) outer.1 in
    (leb-true (length ds) MAX_REGISTRATIONS outer.0, inner.0, no_not (repeat_address ds) inner.1)

-- each device is due
pub due_at : (ds : List KeptDevice) (i : ℕ) (d : KeptDevice) → list_all is_due ds ≡ true → i < length ds → is_due (get_or ds i d) ≡ true
due_at [] i d e lt = absurd (omega (arith, lt))
due_at (x ∷ xs) zero d e lt = (and_parts (is_due x) (list_all is_due xs) e).0
due_at (x ∷ xs) (suc i) d e lt = due_at xs i d (and_parts (is_due x) (list_all is_due xs) e).1 (omega (arith, lt))

-- so its last tick is counted
pub within : (d : KeptDevice) → is_due d ≡ true → d.left ≤ d.time_to_live + GRACE
within d e = leb-true d.left (d.time_to_live + GRACE) (and_parts (nat_lt 0 d.left) (nat_le d.left (d.time_to_live + GRACE)) e).1

-- another device has another address
apart_at : (a : BipAddr) (ds : List KeptDevice) (i : ℕ) (d : KeptDevice) → list_any (is_of_device a) ds ≡ false → i < length ds
    → same a (get_or ds i d).address ≡ false
apart_at a [] i d e lt = absurd (omega (arith, lt))
apart_at a (x ∷ xs) zero d e lt = (or_parts (is_of_device a x) (list_any (is_of_device a) xs) e).0
apart_at a (x ∷ xs) (suc i) d e lt =
    apart_at a xs i d (or_parts (is_of_device a x) (list_any (is_of_device a) xs) e).1 (omega (arith, lt))

-- one device more goes last
pub one_more : (ticks : ℕ) (ds : List KeptDevice) (i : ℕ) (d : KeptDevice) → repeat_address ds ≡ false → i < length ds
    → insert_entry same (map (lease_kept ticks) (take i ds)) (lease_kept ticks (get_or ds i d)).0 (lease_kept ticks (get_or ds i d)).1
    ≡ map (lease_kept ticks) (take (i + 1) ds)
one_more ticks [] i d once lt = absurd (omega (arith, lt))
one_more ticks (x ∷ xs) zero d once lt = refl
one_more ticks (x ∷ xs) (suc i) d once lt =
    let split = or_parts (list_any (is_of_device x.address) xs) (repeat_address xs) once in
    let y : KeptDevice = get_or xs i d in
    let apart : same y.address x.address ≡ false = flipped y.address x.address ∙ apart_at x.address xs i d split.0 (omega (arith, lt)) in
    let lease = (lease_kept ticks y).1 in
    let more : suc i + 1 ≡ suc (i + 1) = omega arith in
    ap (λ b. if b then (x.address, lease) ∷ map (lease_kept ticks) (take i xs) else lease_kept ticks x ∷ insert_entry same (map (lease_kept ticks) (take i xs)) y.address lease) apart
    ∙ ap (λ es. lease_kept ticks x ∷ es) (one_more ticks xs i d split.1 (omega (arith, lt)))
    ∙ ap (λ n. map (lease_kept ticks) (take n (x ∷ xs))) (sym more)

-- what the leases are the table of
pub restored_is : (ticks : ℕ) (ds : List KeptDevice) → table_at ticks (map (lease_kept ticks) ds) ≡ restored ticks ds
restored_is ticks ds = ap (λ rows. record { ticks = ticks; rows = rows }) (each ds)
  where
    each : (ds : List KeptDevice) → map (row_at ticks) (map (lease_kept ticks) ds) ≡ map row_of ds
    each [] = refl
    each (x ∷ xs) =
        let left : ticks + x.left - ticks ≡ x.left = omega arith in
        λ j. (x.address, record { time_to_live = x.time_to_live; left = left j }) ∷ each xs j

length_kept : (ticks : ℕ) (ds : List KeptDevice) → length (map (lease_kept ticks) ds) ≡ length ds
length_kept ticks [] = refl
length_kept ticks (x ∷ xs) = omega (arith, length_kept ticks xs)

some_left : (d : KeptDevice) → is_due d ≡ true → 0 < d.left
some_left d e = ltb-true 0 d.left (and_parts (nat_lt 0 d.left) (nat_le d.left (d.time_to_live + GRACE)) e).0

hold_kept : (ticks : ℕ) (ds : List KeptDevice) → list_all is_due ds ≡ true
    → AllByRecursion (λ e. IsTrue (holds_at ticks e)) (map (lease_kept ticks) ds)
hold_kept ticks [] e = tt
hold_kept ticks (x ∷ xs) e =
    let each = and_parts (is_due x) (list_all is_due xs) e in
    (lt-ltb ticks (ticks + x.left) (omega (arith, some_left x each.0)), hold_kept ticks xs each.1)

granted_kept : (ticks : ℕ) (ds : List KeptDevice) → list_all is_due ds ≡ true
    → AllByRecursion (is_granted ticks) (map (lease_kept ticks) ds)
granted_kept ticks [] e = tt
granted_kept ticks (x ∷ xs) e =
    let each = and_parts (is_due x) (list_all is_due xs) e in
    (omega (arith, within x each.0), granted_kept ticks xs each.1)

pub are_kept : (ticks : ℕ) (ds : List KeptDevice) → ticks ≤ 2 ^ 63 → are_restorable ds ≡ true
    → AreKept ticks (map (lease_kept ticks) ds)
are_kept ticks ds below e =
    let fit = parts ds e in
    record {
      few = omega (arith, length_kept ticks ds, fit.0);
      below = below;
      hold = hold_kept ticks ds fit.1;
      granted = granted_kept ticks ds fit.1;
    }

-- ---- kept

-- what is kept of a table is the table again
pub back : (t : Registrations) → restored t.ticks (map kept t.rows) ≡ t
back t = ap (λ rows. record { ticks = t.ticks; rows = rows }) (each t.rows)
  where
    each : (rows : List (BipAddr × Registration)) → map row_of (map kept rows) ≡ rows
    each [] = refl
    each (r ∷ rs) = ap (λ rows. r ∷ rows) (each rs)

-- what is kept of a lease
abbrev of_lease : ℕ → BipAddr × Lease → KeptDevice
of_lease ticks e = kept (row_at ticks e)

abbrev all_of : ℕ → LeaseList → List KeptDevice
all_of ticks es = map kept (map (row_at ticks) es)

length_of : (ticks : ℕ) (es : LeaseList) → length (all_of ticks es) ≡ length es
length_of ticks [] = refl
length_of ticks (e ∷ es) = omega (arith, length_of ticks es)

due_of : (ticks : ℕ) (es : LeaseList) → AllByRecursion (λ e. IsTrue (holds_at ticks e)) es → AllByRecursion (is_granted ticks) es
    → list_all is_due (all_of ticks es) ≡ true
due_of ticks [] hold granted = refl
due_of ticks (e ∷ es) hold granted =
    let later = ltb-true ticks e.1.deadline hold.0 in
    let left = e.1.deadline - ticks in
    and_from (is_due (of_lease ticks e)) (list_all is_due (all_of ticks es))
    (and_from (nat_lt 0 left) (nat_le left (e.1.time_to_live + GRACE)) (lt-ltb 0 left (omega (arith, later)))
    (le-leb left (e.1.time_to_live + GRACE) (omega (arith, granted.0))))
    (due_of ticks es hold.1 granted.1)

none_of : (ticks : ℕ) (a : BipAddr) (es : LeaseList) → AllByRecursion (λ b. same a b ≡ false) (keys_of es)
    → list_any (is_of_device a) (all_of ticks es) ≡ false
none_of ticks a [] apart = refl
none_of ticks a (e ∷ es) apart = λ j. apart.0 j || none_of ticks a es apart.1 j

once_of : (ticks : ℕ) (es : LeaseList) → IsDistinct same (keys_of es) → repeat_address (all_of ticks es) ≡ false
once_of ticks [] d = refl
once_of ticks (e ∷ es) d =
    λ j. none_of ticks e.0 es (IsDistinct-head same e.0 (keys_of es) d) j || once_of ticks es (IsDistinct-tail same e.0 (keys_of es) d) j

-- what is kept of a table can be restored
pub restorable : (ticks : ℕ) (es : LeaseList) → AreKept ticks es → IsDistinct same (keys_of es) → are_restorable (all_of ticks es) ≡ true
restorable ticks es k once =
    and_from (nat_le (length (all_of ticks es)) MAX_REGISTRATIONS) (list_all is_due (all_of ticks es) && not (repeat_address (all_of ticks es)))
    (le-leb (length (all_of ticks es)) MAX_REGISTRATIONS (omega (arith, length_of ticks es, k.few)))
    (and_from (list_all is_due (all_of ticks es)) (not (repeat_address (all_of ticks es))) (due_of ticks es k.hold k.granted)
    (ap not (once_of ticks es once)))
