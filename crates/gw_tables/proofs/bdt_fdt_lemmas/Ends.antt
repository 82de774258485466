-- What comes first of the ends of leases, as leases come and go.
use Rattle.std.proofs.Common.{◌≡◌, ◌∙◌, ℕ, ◌<◌, ◌≤◌, Bool, true, false, cond, [], ◌∷◌, if◌then◌else◌, refl, sym, ap, filter, arith}
use Rattle.std.specs.List.{AllByRecursion}
use Rattle.std.specs.Map.{remove_entry}
use Rattle.std.proofs.lemmas.Bool.{lt-ltb}
use Rattle.indexmap.specs.IndexMap.{insert_entry}
use Rattle.gw_addr.specs.declared.bip.BipAddr.{BipAddr}
use Rattle.gw_tables.specs.declared.bdt_fdt.leases.Lease.{Lease}
use Rattle.gw_tables.specs.bdt_fdt.Registrations.{same}
use Rattle.gw_tables.specs.bdt_fdt.internal.Leases.{LeaseList, ends_from, holds_at}

-- what ends from a tick on ends from an earlier one on
pub from_earlier : (m n : ℕ) → m ≤ n → (es : LeaseList) → AllByRecursion (ends_from n) es → AllByRecursion (ends_from m) es
from_earlier m n le [] each = tt
from_earlier m n le (e ∷ es) each = (let first = each.0 in omega (arith, le, first), from_earlier m n le es each.1)

-- a lease is added that ends from a tick on
pub from_with : (m : ℕ) (es : LeaseList) (a : BipAddr) (l : Lease) → AllByRecursion (ends_from m) es → m ≤ l.deadline
    → AllByRecursion (ends_from m) (insert_entry same es a l)
from_with m [] a l each le = (le, tt)
from_with m (e ∷ es) a l each le = by (same a e.0) (from_with m es a l each.1 le)
  where
    by : (x : Bool) → AllByRecursion (ends_from m) (insert_entry same es a l)
        → AllByRecursion (ends_from m) (if x then (e.0, l) ∷ es else e ∷ insert_entry same es a l)
    by true ih = (le, each.1)
    by false ih = (each.0, ih)

-- a lease is taken
pub from_without : (m : ℕ) (es : LeaseList) (a : BipAddr) → AllByRecursion (ends_from m) es → AllByRecursion (ends_from m) (remove_entry (same a) es)
from_without m [] a each = tt
from_without m (e ∷ es) a each = by (same a e.0) (from_without m es a each.1)
  where
    by : (x : Bool) → AllByRecursion (ends_from m) (remove_entry (same a) es)
        → AllByRecursion (ends_from m) (cond x es (e ∷ remove_entry (same a) es))
    by true ih = each.1
    by false ih = (each.0, ih)

-- before the first end each lease holds
pub none_ends : (now first : ℕ) → now < first → (es : LeaseList) → AllByRecursion (ends_from first) es → es ≡ filter (holds_at now) es
none_ends now first lt [] each = refl
none_ends now first lt (e ∷ es) each =
    let at = each.0 in
    let holds : holds_at now e ≡ true = lt-ltb now e.1.deadline (omega (arith, lt, at)) in
    ap (λ rest. e ∷ rest) (none_ends now first lt es each.1)
    ∙ sym (ap (λ b. cond b (e ∷ filter (holds_at now) es) (filter (holds_at now) es)) holds)
