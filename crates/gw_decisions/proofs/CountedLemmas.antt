-- How counts go on.
use Rattle.std.proofs.Common.{◌≡◌, ◌∙◌, refl, sym, ap, zero, suc, ℕ, ◌+◌, ◌-◌, ◌^◌, ◌<◌, ◌≤◌, ◌⊎◌, inl, inr, Bool, true, false, List, [], ◌∷◌, ◌++◌, Option, length, replicate, slice_index_or, take, arith, map}
use Rattle.std.proofs.Math.Dec.{eqb-suc-zero}
use Rattle.std.proofs.Math.Nat.{min-eq_left, min-eq_right}
use Rattle.std.proofs.Math.Seq.{take-suc}
use Rattle.std.proofs.lemmas.Bool.{cases_lt}
use Rattle.std.proofs.lemmas.List.{append-nil}
use Rattle.std.proofs.lemmas.Grind.{flat_map-append}
use Rattle.std.specs.Prelude.{◌==◌, min, if◌then◌else◌, slice_index}
use Rattle.gw_core.specs.Deciders.{decided_along, decided_in}
use Rattle.gw_core.specs.declared.asked.Asked.{Asked}
use Rattle.gw_core.specs.declared.streak.Streak.{Streak}
use Rattle.gw_decisions.specs.tally.Tally.{CountsMore, more, one_more, place_of}
use Rattle.gw_decisions.specs.Counted.{AreCounted, AreCountedBy, counted_by, counted_on}

counted_along : (k count : ℕ) (one two : List (Option ℕ)) → counted_by k count (one ++ two) ≡ counted_by k (counted_by k count one) two
counted_along k count [] two = refl
counted_along k count (by ∷ one) two = counted_along k (if place_of by == k then one_more count else count) one two

pub counted_then : (first now new : List ℕ) (one two : List (Option ℕ))
    → AreCountedBy first one now → AreCountedBy now two new → AreCountedBy first (one ++ two) new
counted_then first now new one two p q = record {
  places = q.places ∙ p.places;
  each = λ k within. q.each k (omega (arith, within, p.places)) ∙ ap (λ (n : ℕ). counted_by k n two) (p.each k within)
      ∙ sym (counted_along k (slice_index first k) one two);
}

-- a count that may be at its end goes on by one and then by more, or by all at once
capped : (end n count : ℕ) → (n < end) ⊎ (end ≤ n) → min (min n end + count) end ≡ min (n + count) end
capped end n count (inl below) = ap (λ (m : ℕ). min (m + count) end) (min-eq_left (omega (arith, below)))
capped end n count (inr past) =
    ap (λ (m : ℕ). min (m + count) end) (min-eq_right past) ∙ min-eq_right (omega arith) ∙ sym (min-eq_right (omega (arith, past)))

more_some : (count n : ℕ) → more (suc count) n ≡ min (n + suc count) (2 ^ 64 - 1)
more_some count n = ap (λ (b : Bool). if b then n else min (n + suc count) (2 ^ 64 - 1)) (eqb-suc-zero count)

more_then : (count n : ℕ) → more count (one_more n) ≡ more (suc count) n
more_then zero n = refl
more_then (suc count) n =
    let sum : n + 1 + suc count ≡ n + suc (suc count) = omega arith in
    more_some count (one_more n) ∙ capped (2 ^ 64 - 1) (n + 1) (suc count) (cases_lt (n + 1) (2 ^ 64 - 1))
    ∙ ap (λ (m : ℕ). min m (2 ^ 64 - 1)) sum ∙ sym (more_some (suc count) n)

-- asks of one rule, counted one by one
one_and_more : (b : Bool) (count n : ℕ)
    → (if b then more count (if b then one_more n else n) else (if b then one_more n else n)) ≡ (if b then more (suc count) n else n)
one_and_more true count n = more_then count n
one_and_more false count n = refl

none_more : (b : Bool) (n : ℕ) → n ≡ (if b then n else n)
none_more true n = refl
none_more false n = refl

counted_same : (k count n : ℕ) (by : Option ℕ) → counted_by k n (replicate count by) ≡ (if place_of by == k then more count n else n)
counted_same k zero n by = none_more (place_of by == k) n
counted_same k (suc count) n by =
    counted_same k count (if place_of by == k then one_more n else n) by ∙ one_and_more (place_of by == k) count n

pub streak_counted : (by : Option ℕ) (count : ℕ) (before after : List ℕ)
    → CountsMore (place_of by) count before after → AreCountedBy before (replicate count by) after
streak_counted by count before after p = record {
  places = p.places;
  each = λ k within. p.each k within ∙ sym (counted_same k count (slice_index before k) by);
}

-- one streak more
pub decided_next : (streaks : List Streak) (at : ℕ) (other : Streak) → at < length streaks
    → decided_along (take (at + 1) streaks) ≡ decided_along (take at streaks) ++ decided_in (slice_index_or streaks at other)
decided_next streaks at other within =
    let next : at + 1 ≡ suc at = omega arith in
    let one = slice_index_or streaks at other in
    ap (λ (n : ℕ). decided_along (take n streaks)) next
    ∙ ap decided_along (take-suc streaks at other within)
    ∙ flat_map-append decided_in (take at streaks) (one ∷ [])
    ∙ ap (λ (l : List (Option ℕ)). decided_along (take at streaks) ++ l) (append-nil (decided_in one))

-- the asks by themselves
counted_asked : (k count : ℕ) (all : List Asked) → counted_by k count (map (λ a. a.verdict.by) all) ≡ counted_on k count all
counted_asked k count [] = refl
counted_asked k count (a ∷ all) = counted_asked k (if place_of a.verdict.by == k then one_more count else count) all

pub asks_counted : (before after : List ℕ) (deciders : List (Option ℕ)) (all : List Asked) → deciders ≡ map (λ a. a.verdict.by) all
    → AreCountedBy before deciders after → AreCounted before all after
asks_counted before after deciders all are p = record {
  places = p.places;
  each = λ k within. p.each k within ∙ ap (counted_by k (slice_index before k)) are ∙ counted_asked k (slice_index before k) all;
}
