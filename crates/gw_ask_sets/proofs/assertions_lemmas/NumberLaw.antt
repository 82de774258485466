-- Ranges of one number.
use Rattle.std.proofs.Common.{◌≡◌, ◌∙◌, ap, refl, ℕ, ◌&&◌, ◌||◌, ◌==◌, List, [], ◌∷◌, map, nat_eq, nat_le, Option, Some, None, arith}
use Rattle.std.specs.List.{list_any}
use Rattle.std.proofs.lemmas.Bool.{and_from, and_parts, eq-eqb, eqb-true, le-leb, leb-true}
use Rattle.gw_rules.specs.Range.{admits, holds}
use Rattle.gw_ask_sets.specs.assertions.Asserted.{is_number}
use Rattle.gw_ask_sets.specs.regions.Ranges.{between}
use Rattle.gw_ask_sets.proofs.regions_lemmas.RangeLaw.{or_none, same}

-- a range of one number holds this alone
pub holds_one : (n number : ℕ) → holds number (between n n) ≡ (number == n)
holds_one n number =
    same (nat_le n number && nat_le number n) (number == n)
    (λ e. let parts = and_parts (nat_le n number) (nat_le number n) e in
    let low = leb-true n number parts.0 in
    let high = leb-true number n parts.1 in
    eq-eqb number n (omega arith))
    (λ e. let is = eqb-true number n e in
    and_from (nat_le n number) (nat_le number n) (le-leb n number (omega arith)) (le-leb number n (omega arith)))

-- and admits it alone
pub only_admits : (n : ℕ) (x : Option ℕ) → admits (between n n ∷ []) x ≡ is_number n x
only_admits n None = refl
only_admits n (Some number) = or_none (holds number (between n n)) ∙ holds_one n number

-- some numbers, each as a range
pub any_one : (n : ℕ) (numbers : List ℕ) → list_any (holds n) (map (λ number. between number number) numbers) ≡ list_any (nat_eq n) numbers
any_one n [] = refl
any_one n (number ∷ numbers) =
    ap (λ b. b || list_any (holds n) (map (λ k. between k k) numbers)) (holds_one number n) ∙ ap (λ b. nat_eq n number || b) (any_one n numbers)
