-- What is admitted of some values and what is refused.
use Rattle.std.proofs.Common.{◌≡◌, ◌∙◌, sym, ap, ℕ, true, false, ◌&&◌, ◌||◌, ◌==◌, List, [], ◌∷◌, length, Option, Some, None, arith}
use Rattle.std.specs.Prelude.{not, if◌then◌else◌}
use Rattle.std.specs.List.{list_any}
use Rattle.std.specs.Option.{option_map_or}
use Rattle.std.proofs.lemmas.Bool.{and_parts, eqb-true, ne_eqb, not-true}
use Rattle.std.proofs.lemmas.List.{nil_from_length}
use Rattle.gw_rules.specs.Range.{admits, holds}
use Rattle.gw_rules.specs.declared.range.Range.{Range}
use Rattle.gw_ask_sets.specs.regions.Merging.{AreUnited}
use Rattle.gw_ask_sets.specs.regions.Ranges.{shared, without}
use Rattle.gw_ask_sets.specs.regions.Values.{admitted, has, is_empty, refused}
use Rattle.gw_ask_sets.specs.declared.regions.values.Values.{Values}
use Rattle.gw_ask_sets.proofs.regions_lemmas.RangeLaw.{and_all, and_none, shared_law, without_law}

pub not_empty : (r : Range) (rs : List Range) → (length (r ∷ rs) == 0) ≡ false
not_empty r rs = ne_eqb (length (r ∷ rs)) 0 (λ e. omega arith)

pub some_admits : (r : Range) (rs : List Range) (x : Option ℕ) → admits (r ∷ rs) x ≡ option_map_or (λ number. list_any (holds number) (r ∷ rs)) x false
some_admits r rs x = ap (λ b. b || option_map_or (λ number. list_any (holds number) (r ∷ rs)) x false) (not_empty r rs)

pub admitted_law : (v : Values) (ranges : List Range) (x : Option ℕ) → has (admitted v ranges) x ≡ (has v x && admits ranges x)
admitted_law v [] x = sym (and_all (has v x))
admitted_law v (r ∷ rs) x =
    ap (λ b. has (if b then v else record { absent = false; ranges = shared v.ranges (r ∷ rs) }) x) (not_empty r rs)
    ∙ by x ∙ ap (λ b. has v x && b) (sym (some_admits r rs x))
  where
    by : (x : Option ℕ) → has (record { absent = false; ranges = shared v.ranges (r ∷ rs) }) x
        ≡ (has v x && option_map_or (λ number. list_any (holds number) (r ∷ rs)) x false)
    by None = sym (and_none v.absent)
    by (Some n) = shared_law n v.ranges (r ∷ rs)

pub refused_law : (v : Values) (ranges : List Range) (x : Option ℕ) → has (refused v ranges) x ≡ (has v x && not (admits ranges x))
refused_law v [] None = sym (and_none v.absent)
refused_law v [] (Some n) = sym (and_none (list_any (holds n) v.ranges))
refused_law v (r ∷ rs) x =
    ap (λ b. has (if b then record { absent = false; ranges = [] } else record { absent = v.absent; ranges = without v.ranges (r ∷ rs) }) x) (not_empty r rs)
    ∙ by x ∙ ap (λ b. has v x && not b) (sym (some_admits r rs x))
  where
    by : (x : Option ℕ) → has (record { absent = v.absent; ranges = without v.ranges (r ∷ rs) }) x
        ≡ (has v x && not (option_map_or (λ number. list_any (holds number) (r ∷ rs)) x false))
    by None = sym (and_all v.absent)
    by (Some n) = without_law n v.ranges (r ∷ rs)

pub empty_law : (v : Values) (x : Option ℕ) → is_empty v ≡ true → has v x ≡ false
empty_law v x e =
    let parts = and_parts (not v.absent) (length v.ranges == 0) e in
    let none : v.ranges ≡ [] = nil_from_length v.ranges (eqb-true (length v.ranges) 0 parts.1) in
    by x none (not-true v.absent parts.0)
  where
    by : (x : Option ℕ) → v.ranges ≡ [] → v.absent ≡ false → has v x ≡ false
    by None n a = a
    by (Some k) n a = ap (list_any (holds k)) n

-- ---- values like others, and those of both

pub same_values : (a b : Values) → a.absent ≡ b.absent → a.ranges ≡ b.ranges → (x : Option ℕ) → has a x ≡ has b x
same_values a b one two None = one
same_values a b one two (Some n) = ap (list_any (holds n)) two

pub united_values : (a b all : Values) → all.absent ≡ (a.absent || b.absent) → AreUnited all.ranges a.ranges b.ranges → (x : Option ℕ) → has all x ≡ (has a x || has b x)
united_values a b all one two None = one
united_values a b all one two (Some n) = two n
