-- A network that is none of the direct ones lies in a gap between them.
use Rattle.std.proofs.Common.{◌≡◌, ◌≢◌, ◌⊎◌, inl, inr, refl, ℕ, ◌≤◌, ◌<◌, Bool, true, false, List, [], ◌∷◌, ◌++◌, Some, arith, nat_lt}
use Rattle.std.specs.List.{AllByRecursion, flat_map}
use Rattle.std.specs.Option.{option_to_list}
use Rattle.std.proofs.lemmas.Bool.{lt-ltb, ltb-false, ltb-true}
use Rattle.gw_configuration.specs.declared.port.Port.{Port as ConfiguredPort}
use Rattle.gw_rules.specs.Range.{holds}
use Rattle.gw_ask_sets.specs.shapes.Pieces.{above, below}
use Rattle.gw_ask_sets.specs.shapes.Shape.{IsWithin}
use Rattle.gw_ask_sets.specs.shapes.Shapes.{gaps, gaps_between, network, only, split}
use Rattle.gw_ask_sets.specs.declared.shapes.side.Side.{Side}
use Rattle.gw_ask_sets.proofs.shapes_lemmas.Lying.{in_range}

abbrev pub WithinOne : List Side → ℕ → Type 0
WithinOne [] n = ⊥
WithinOne (side ∷ sides) n = IsWithin side (Some n) ⊎ WithinOne sides n

one_front : (xs ys : List Side) (n : ℕ) → WithinOne xs n → WithinOne (xs ++ ys) n
one_front [] ys n is = absurd is
one_front (x ∷ xs) ys n (inl here) = inl here
one_front (x ∷ xs) ys n (inr later) = inr (one_front xs ys n later)

one_rest : (xs ys : List Side) (n : ℕ) → WithinOne ys n → WithinOne (xs ++ ys) n
one_rest [] ys n is = is
one_rest (x ∷ xs) ys n is = inr (one_rest xs ys n is)

-- a number that isn't taken out
split_side : (hole : ℕ) (side : Side) (n : ℕ) (b lower : Bool) → holds hole side.range ≡ b → nat_lt n hole ≡ lower → n ≢ hole
    → IsWithin side (Some n) → WithinOne (split hole side) n
split_side hole side n false lower e f other is = rw e (inl is)
split_side hole side n true true e f other is =
    let under = ltb-true n hole f in
    let from = (in_range side n is).0 in
    let t : nat_lt side.range.low hole ≡ true = lt-ltb side.range.low hole (omega arith) in
    rw e (one_front (option_to_list (below side (only hole))) (option_to_list (above side (only hole))) n
    (rw t (inl (from, omega arith))))
split_side hole side n true false e f other is =
    let from : hole ≤ n = ltb-false n hole f in
    let over : hole < n = above_it from in
    let to = (in_range side n is).1 in
    let t : nat_lt hole side.range.high ≡ true = lt-ltb hole side.range.high (omega arith) in
    rw e (one_rest (option_to_list (below side (only hole))) (option_to_list (above side (only hole))) n
    (rw t (inl (omega arith, to))))
  where
    above_it : hole ≤ n → hole < n
    above_it from = omega (arith, other)

split_each : (hole : ℕ) (sides : List Side) (n : ℕ) → n ≢ hole → WithinOne sides n → WithinOne (flat_map (split hole) sides) n
split_each hole [] n other is = absurd is
split_each hole (side ∷ sides) n other (inl here) =
    one_front (split hole side) (flat_map (split hole) sides) n
    (split_side hole side n (holds hole side.range) (nat_lt n hole) refl refl other here)
split_each hole (side ∷ sides) n other (inr later) =
    one_rest (split hole side) (flat_map (split hole) sides) n (split_each hole sides n other later)

between : (ports : List ConfiguredPort) (sides : List Side) (n : ℕ) → AllByRecursion (λ p. n ≢ p.network) ports → WithinOne sides n
    → WithinOne (gaps_between sides ports) n
between [] sides n none is = is
between (p ∷ ports) sides n none is =
    between ports (flat_map (split p.network) sides) n none.1 (split_each p.network sides n none.0 is)

-- a network that is none of the direct ones lies in a gap
pub in_gap : (device : ℕ) (ports : List ConfiguredPort) (n : ℕ) → IsWithin network (Some n) → n ≢ device → AllByRecursion (λ p. n ≢ p.network) ports
    → WithinOne (gaps device ports) n
in_gap device ports n is other none =
    between ports (flat_map (split device) (network ∷ [])) n none (split_each device (network ∷ []) n other (inl is))
