-- A subnet is known by its keys.
use Rattle.std.proofs.Common.{◌≡◌, ◌∙◌, ap, ℕ, ◌+◌, ◌-◌, ◌*◌, ◌^◌, ◌<◌, ◌≤◌, arith, inl, inr}
use Rattle.std.specs.Prelude.{◌⊎◌}
use Rattle.std.proofs.Math.Pow.{pow-lt}
use Rattle.std.proofs.lemmas.Bool.{cases_order}
use Rattle.std.proofs.lemmas.Nat.{pow_pos}
use Rattle.gw_configuration.specs.Subnet.{IsSubnet, Subnet, keys_of, size_of}
use Rattle.gw_rules.specs.declared.range.Range.{Range}

same_power : (i j : ℕ) → 2 ^ i ≡ 2 ^ j → i ≡ j
same_power i j e = by (cases_order i j)
  where
    by : (i ≡ j) ⊎ ((i < j) ⊎ (j < i)) → i ≡ j
    by (inl same) = same
    by (inr (inl below)) = absurd (omega (arith, e, pow-lt below))
    by (inr (inr above)) = absurd (omega (arith, e, pow-lt above))

same_network : (n m : ℕ) → n * 65536 ≡ m * 65536 → n ≡ m
same_network n m e = omega (arith, e)

same_size : (n m a b : ℕ) → n ≡ m → 0 < a → 0 < b → (n + a) * 65536 - 1 ≡ (m + b) * 65536 - 1 → a ≡ b
same_size n m a b same some other e = omega (arith, same, some, other, e)

same_prefix : (p q : ℕ) → p ≤ 32 → q ≤ 32 → 32 - p ≡ 32 - q → p ≡ q
same_prefix p q short brief e = omega (arith, short, brief, e)

-- two subnets that have the same keys are one
pub of_keys : (s t : Subnet) → IsSubnet s → IsSubnet t → keys_of s ≡ keys_of t → s ≡ t
of_keys s t is_one is_other e =
    let network = same_network s.network t.network (ap (λ (r : Range). r.low) e) in
    let size = same_size s.network t.network (size_of s.prefix) (size_of t.prefix) network (pow_pos (32 - s.prefix)) (pow_pos (32 - t.prefix)) (ap (λ (r : Range). r.high) e) in
    let prefix = same_prefix s.prefix t.prefix is_one.short is_other.short (same_power (32 - s.prefix) (32 - t.prefix) size) in
    ap (λ (n : ℕ). record { network = n; prefix = s.prefix }) network ∙ ap (λ (p : ℕ). record { network = t.network; prefix = p }) prefix
