-- Lists of one thing, so many times.
use Rattle.std.proofs.Common.{◌≡◌, ◌∙◌, sym, ap, refl, ℕ, zero, suc, ◌+◌, ◌<◌, List, [], ◌∷◌, ◌++◌, add-one, get_or, length, take}
use Rattle.std.proofs.Math.Seq.{take-suc}
use Rattle.gw_policy_drafts.specs.suggestion.Suggestion.{each}

each_more : {A : Type 0} (count : ℕ) (one : A) → each count one ++ one ∷ [] ≡ each (suc count) one
each_more zero one = refl
each_more (suc count) one = ap (λ (xs : List _). one ∷ xs) (each_more count one)

pub each_step : {A : Type 0} (xs : List A) (place : ℕ) (d one : A) → place < length xs → get_or xs place d ≡ one
    → take place xs ≡ each place one → take (place + 1) xs ≡ each (place + 1) one
each_step {A = A} xs place d one within is so_far =
    ap (λ n. take n xs) (add-one place) ∙ take-suc xs place d within
    ∙ ap (λ (ys : List A). ys ++ get_or xs place d ∷ []) so_far
    ∙ ap (λ (x : A). each place one ++ x ∷ []) is
    ∙ each_more place one ∙ sym (ap (λ n. each n one) (add-one place))
