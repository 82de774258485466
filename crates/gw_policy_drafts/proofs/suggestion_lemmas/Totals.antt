-- How a total of asks grows.
use Rattle.std.proofs.Common.{◌≡◌, ◌∙◌, sym, ap, refl, ℕ, ◌+◌, ◌<◌, Bool, List, [], get_or, length, take}
use Rattle.std.proofs.lemmas.List.Sums.{fold_more}
use Rattle.gw_rules.specs.Ask.{Ask}
use Rattle.gw_policy_drafts.specs.suggestion.Text.{counted_on, total}
use Rattle.gw_policy_drafts.specs.declared.suggestion.given.Weighted.{Weighted}

pub total_none : (test : Ask → Bool) → 0 ≡ total test []
unfolding total
total_none test = refl

pub total_step : (test : Ask → Bool) (asks : List Weighted) (k : ℕ) (d : Weighted) (sum new : ℕ) (passes : Bool) → k < length asks
    → sum ≡ total test (take k asks) → passes ≡ test (get_or asks k d).ask → new ≡ counted_on sum passes (get_or asks k d).times
    → new ≡ total test (take (k + 1) asks)
unfolding total
total_step test asks k d sum new passes inside so_far is made =
    let each = get_or asks k d in
    made ∙ ap (λ (b : Bool). counted_on sum b each.times) is
    ∙ ap (λ (n : ℕ). counted_on n (test each.ask) each.times) so_far
    ∙ sym (fold_more (λ (n : ℕ) (one : Weighted). counted_on n (test one.ask) one.times) 0 asks k d inside)
