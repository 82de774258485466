-- How many asks the rule of each number decides.
use Rattle.std.specs.Prelude.{◌≡◌, ℕ, ◌<◌, ◌==◌, if◌then◌else◌, List, [], ◌∷◌, Option, length, slice_index}
use Rattle.gw_core.specs.declared.asked.Asked.{Asked}
use Rattle.gw_decisions.specs.tally.Tally.{one_more, place_of}

-- a count of the asks that the rule of this number decided, or none at 0: one more for each, up to 2^64 - 1
abbrev pub counted_on : ℕ → ℕ → List Asked → ℕ
counted_on number count [] = count
counted_on number count (a ∷ asked) =
    counted_on number (if place_of a.verdict.by == number then one_more count else count) asked

-- each count goes on by what its rule decided
pub record AreCounted (before : List ℕ) (asked : List Asked) (after : List ℕ) : Type 0 where
  pub places : length after ≡ length before
  pub each : (k : ℕ) → k < length before → slice_index after k ≡ counted_on k (slice_index before k) asked

-- the same, by the rules that decided the asks
abbrev pub counted_by : ℕ → ℕ → List (Option ℕ) → ℕ
counted_by number count [] = count
counted_by number count (by ∷ deciders) = counted_by number (if place_of by == number then one_more count else count) deciders

pub record AreCountedBy (before : List ℕ) (deciders : List (Option ℕ)) (after : List ℕ) : Type 0 where
  pub places : length after ≡ length before
  pub each : (k : ℕ) → k < length before → slice_index after k ≡ counted_by k (slice_index before k) deciders
