-- A search for the first place that passes a test, place by place.
use Rattle.std.proofs.Common.{◌≡◌, ℕ, ◌+◌, ◌≤◌, ◌<◌, Bool, true, false, cond, List, length, inl, inr, Some, None, arith, sym, ◌∙◌, ap, nat_lt, get_or}
use Rattle.std.specs.List.{position, position_or_len}
use Rattle.std.proofs.lemmas.Bool.{both_ways, cases_order, lt-ltb}
use Rattle.std.proofs.lemmas.List.Quantifiers.{position-Some}
use Rattle.std.proofs.lemmas.List.Sums.{fails_before_first, position_or_len_is}

-- a place that is there, and first, is found
there : {X : Type 0} (test : X → Bool) (xs : List X) (k : ℕ) → position_or_len test xs ≡ k → k < length xs → position test xs ≡ Some k
there test xs k e within =
    ap (λ n. cond (nat_lt n (length xs)) (Some n) None) e
    ∙ ap (λ b. cond b (Some k) None) (lt-ltb k (length xs) within)

-- where none passed before a place, and that one does, it is found
pub found : {X : Type 0} (test : X → Bool) (xs : List X) (k : ℕ) (d : X) → k ≤ position_or_len test xs → k < length xs
    → test (get_or xs k d) ≡ true → Some k ≡ position test xs
found test xs k d before within passes =
    let is = position_or_len_is test xs k d (omega arith) (λ j lower. fails_before_first test xs j d (omega arith)) (λ _. passes) in
    sym (there test xs k is within)

-- and where it doesn't, none passed before the next
pub next : {X : Type 0} (test : X → Bool) (xs : List X) (k : ℕ) (d : X) → k ≤ position_or_len test xs → k < length xs
    → test (get_or xs k d) ≡ false → k + 1 ≤ position_or_len test xs
next test xs k d before within fails =
    elim (cases_order (position_or_len test xs) k) [
      | inl same ↦ absurd (both_ways (test (get_or xs k d)) fails (position-Some test xs k d (there test xs k same within)).1)
      | inr apart ↦ elim apart [
        | inl below ↦ absurd (omega arith)
        | inr above ↦ omega arith
      ]
    ]
