-- Where each table is the rule of its own number, no place is named.
use Rattle.std.proofs.Common.{◌≡◌, ◌+◌, ◌-◌, ◌==◌, ◌&&◌, ℕ, zero, suc, Bool, true, false, List, [], ◌∷◌, Option, Some, None, arith, refl, slice_get}
use Rattle.std.proofs.lemmas.Bool.{eq-eqb, eqb-true}
use Rattle.gw_configuration.specs.Configuration.{are_counted}
use Rattle.gw_policy_review.specs.Places.{PlacesAreLeftOut, table_of, words_beside}

and_parts : (a b : Bool) → (a && b) ≡ true → (a ≡ true) × (b ≡ true)
and_parts true b e = (refl, e)
and_parts false b e = absurd cc

counted : (from : ℕ) (tables : List ℕ) (place table : ℕ) → are_counted from tables ≡ true → slice_get tables place ≡ Some table → table ≡ from + place
counted from [] zero table e is = absurd cc
counted from [] (suc place) table e is = absurd cc
counted from (first ∷ later) zero table e is =
    let here = (and_parts (first == from) (are_counted (from + 1) later) e).0 in
    let same : first ≡ table = cc in
    let own : first ≡ from = eqb-true first from here in
    omega (arith, same, own)
counted from (first ∷ later) (suc place) table e is =
    let there = (and_parts (first == from) (are_counted (from + 1) later) e).1 in
    let rest : table ≡ (from + 1) + place = counted (from + 1) later place table there is in
    omega (arith, rest)

pub left_out : PlacesAreLeftOut
left_out tables lines number one e = by (slice_get tables (number - 1)) refl
  where
    by : (found : Option ℕ) → slice_get tables (number - 1) ≡ found → words_beside lines number (table_of tables number) ≡ []
    by None is = rw is refl
    by (Some table) is =
        let at : table ≡ 0 + (number - 1) = counted 0 tables (number - 1) table e is in
        let same : (table + 1) ≡ number = omega (arith, at, one) in
        let own : (table + 1 == number) ≡ true = eq-eqb (table + 1) number same in
        rw (is, own) refl
