-- The search keeps the place between its two ends, and halves the room between them.
use Rattle.std.proofs.Common.{◌≡◌, ℕ, ◌+◌, ◌-◌, ◌*◌, ◌/◌, ◌^◌, ◌≤◌, ◌<◌, List, length, get_or, arith, ◌∙◌, ap}
use Rattle.std.proofs.lemmas.List.{get_or_default}
use Rattle.std.proofs.lemmas.Nat.{pow-add}
use Rattle.gw_rule_index.specs.declared.bound.Bound.{Bound}
use Rattle.gw_rule_index.specs.internal.Bounds.{AreSearchable}

-- the place is from the low end to the high end, which are less than the room apart
pub record Nears (bounds : List Bound) (value low high room : ℕ) : Type 0 where
  pub ordered : low ≤ high
  pub within : high ≤ length bounds
  pub near : AreSearchable bounds → high < low + room
  pub below : AreSearchable bounds → (k : ℕ) (d : Bound) → k < low → (get_or bounds k d).number ≤ value
  pub above : AreSearchable bounds → (k : ℕ) (d : Bound) → high ≤ k → k < length bounds → value < (get_or bounds k d).number

-- the room before a step is twice the room after it
pub room_halves : (step : ℕ) → step < 13 → 2 ^ (13 - step) ≡ 2 ^ (13 - (step + 1)) + 2 ^ (13 - (step + 1))
room_halves step inside =
    let one : 13 - step ≡ (13 - (step + 1)) + 1 = omega arith in
    let parts : 2 ^ (13 - step) ≡ 2 ^ (13 - (step + 1)) * 2 ^ 1 = ap (λ n. 2 ^ n) one ∙ pow-add 2 (13 - (step + 1)) 1 in
    omega (arith, parts)

-- at the start the place is anywhere
pub nears_start : (bounds : List Bound) (value : ℕ) → Nears bounds value 0 (length bounds) (2 ^ 13)
nears_start bounds value = record {
  ordered = omega arith;
  within = omega arith;
  near = λ s. omega (arith, s.1);
  below = λ s k d less. absurd (omega arith);
  above = λ s k d past inside. absurd (omega arith);
}

-- the bound in the middle is above the value
pub nears_lower : (bounds : List Bound) (value low high half room : ℕ) (e : Bound) → Nears bounds value low high room → room ≡ half + half → low < high → value < (get_or bounds (low + (high - low) / 2) e).number → Nears bounds value low (low + (high - low) / 2) half
nears_lower bounds value low high half room e n two less_than over =
    let middle : ℕ = low + (high - low) / 2 in record {
      ordered = omega arith;
      within = omega (arith, n.within);
      near = λ s. omega (arith, n.near s);
      below = n.below;
      above = λ s k d past inside.
          let mid : low + (high - low) / 2 < length bounds = omega (arith, n.within) in
          let up = s.0 (low + (high - low) / 2) k d past inside in
          let same = ap (λ b. b.number) (get_or_default bounds (low + (high - low) / 2) e d mid) in
          omega (arith, up, same, over);
    }

-- the bound in the middle isn't above the value
pub nears_upper : (bounds : List Bound) (value low high half room : ℕ) (e : Bound) → Nears bounds value low high room → room ≡ half + half → low < high → (get_or bounds (low + (high - low) / 2) e).number ≤ value → Nears bounds value (low + (high - low) / 2 + 1) high half
nears_upper bounds value low high half room e n two less_than under = record {
  ordered = omega arith;
  within = n.within;
  near = λ s. omega (arith, n.near s);
  below = λ s k d less.
      let mid : low + (high - low) / 2 < length bounds = omega (arith, n.within) in
      let until : k ≤ low + (high - low) / 2 = omega arith in
      let up = s.0 k (low + (high - low) / 2) d until mid in
      let same = ap (λ b. b.number) (get_or_default bounds (low + (high - low) / 2) e d mid) in
      omega (arith, up, same, under);
  above = n.above;
}
