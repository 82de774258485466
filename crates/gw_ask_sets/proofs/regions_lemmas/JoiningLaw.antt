-- One range in the place of two.
use Rattle.std.proofs.Common.{◌≡◌, ◌∙◌, sym, ap, refl, ℕ, ◌+◌, ◌≤◌, ◌<◌, Bool, true, false, cond, ◌&&◌, ◌||◌, arith, nat_le, nat_lt}
use Rattle.std.proofs.lemmas.Bool.{both_ways, false_from_ne_true, leb-false, leb-true, ltb-true, ltb-false}
use Rattle.gw_rules.specs.Range.{holds}
use Rattle.gw_rules.specs.declared.range.Range.{Range}
use Rattle.gw_ask_sets.specs.regions.Ranges.{between, greater, lesser}
use Rattle.gw_ask_sets.proofs.regions_lemmas.RangeLaw.{hold, held, or_none, same}

-- a range whose ends are the wrong way round holds nothing
none_held : (n : ℕ) (r : Range) → r.high < r.low → holds n r ≡ false
none_held n r e = false_from_ne_true (holds n r) (λ t. let at = held n r t in let from = at.0 in let to = at.1 in absurd (omega arith))

pub none_before : (n : ℕ) (a b : Range) → a.high < a.low → holds n b ≡ (holds n a || holds n b)
none_before n a b e = sym (ap (λ c. c || holds n b) (none_held n a e))

pub none_after : (n : ℕ) (a b : Range) → b.high < b.low → holds n a ≡ (holds n a || holds n b)
none_after n a b e = sym (ap (λ c. holds n a || c) (none_held n b e) ∙ or_none (holds n a))

not_under : (a b n : ℕ) → lesser a b ≤ n → n < a → n < b → ⊥
not_under a b n l x y = by (nat_lt b a) l
  where
    by : (c : Bool) → cond c b a ≤ n → ⊥
    by true m = absurd (omega arith)
    by false m = absurd (omega arith)

not_over : (a b n : ℕ) → n ≤ greater a b → a < n → b < n → ⊥
not_over a b n l x y = by (nat_lt a b) l
  where
    by : (c : Bool) → n ≤ cond c b a → ⊥
    by true m = absurd (omega arith)
    by false m = absurd (omega arith)

least : (a b n : ℕ) → a ≤ n → lesser a b ≤ n
least a b n l = by (nat_lt b a) refl
  where
    by : (c : Bool) → nat_lt b a ≡ c → cond c b a ≤ n
    by true e = let u = ltb-true b a e in omega arith
    by false e = l

least_too : (a b n : ℕ) → b ≤ n → lesser a b ≤ n
least_too a b n l = by (nat_lt b a) refl
  where
    by : (c : Bool) → nat_lt b a ≡ c → cond c b a ≤ n
    by true e = l
    by false e = let u = ltb-false b a e in omega arith

most : (a b n : ℕ) → n ≤ a → n ≤ greater a b
most a b n l = by (nat_lt a b) refl
  where
    by : (c : Bool) → nat_lt a b ≡ c → n ≤ cond c b a
    by true e = let u = ltb-true a b e in omega arith
    by false e = l

most_too : (a b n : ℕ) → n ≤ b → n ≤ greater a b
most_too a b n l = by (nat_lt a b) refl
  where
    by : (c : Bool) → nat_lt a b ≡ c → n ≤ cond c b a
    by true e = l
    by false e = let u = ltb-false a b e in omega arith

-- two that overlap or follow one another
pub both_held : (n : ℕ) (a b : Range) → a.low ≤ a.high → b.low ≤ b.high → b.low ≤ a.high + 1 → a.low ≤ b.high + 1
    → holds n (between (lesser a.low b.low) (greater a.high b.high)) ≡ (holds n a || holds n b)
both_held n a b oa ob ab ba =
    same (holds n r) (holds n a || holds n b)
    (λ t. let at = held n r t in by at.0 at.1 (nat_le a.low n) (nat_le n a.high) (nat_le b.low n) (nat_le n b.high) refl refl refl refl)
    (λ t. back (nat_le a.low n) (nat_le n a.high) (nat_le b.low n) (nat_le n b.high) refl refl refl refl t)
  where
    r : Range
    r = between (lesser a.low b.low) (greater a.high b.high)

    by : lesser a.low b.low ≤ n → n ≤ greater a.high b.high
        → (p q s t : Bool) → nat_le a.low n ≡ p → nat_le n a.high ≡ q → nat_le b.low n ≡ s → nat_le n b.high ≡ t
        → ((p && q) || (s && t)) ≡ true
    by from to true true s t ep eq es et = refl
    by from to true false true true ep eq es et = refl
    by from to true false true false ep eq es et =
        absurd (not_over a.high b.high n to (leb-false n a.high eq) (leb-false n b.high et))
    by from to true false false t ep eq es et =
        let u = leb-false n a.high eq in let v = leb-false b.low n es in absurd (omega arith)
    by from to false q true true ep eq es et = refl
    by from to false q true false ep eq es et =
        let u = leb-false a.low n ep in let v = leb-false n b.high et in absurd (omega arith)
    by from to false q false t ep eq es et =
        absurd (not_under a.low b.low n from (leb-false a.low n ep) (leb-false b.low n es))

    back : (p q s t : Bool) → nat_le a.low n ≡ p → nat_le n a.high ≡ q → nat_le b.low n ≡ s → nat_le n b.high ≡ t
        → ((p && q) || (s && t)) ≡ true → holds n r ≡ true
    back true true s t ep eq es et e =
        hold n r (least a.low b.low n (leb-true a.low n ep)) (most a.high b.high n (leb-true n a.high eq))
    back true false true true ep eq es et e =
        hold n r (least_too a.low b.low n (leb-true b.low n es)) (most_too a.high b.high n (leb-true n b.high et))
    back false q true true ep eq es et e =
        hold n r (least_too a.low b.low n (leb-true b.low n es)) (most_too a.high b.high n (leb-true n b.high et))
    back true false true false ep eq es et e = absurd (both_ways false refl e)
    back true false false t ep eq es et e = absurd (both_ways false refl e)
    back false q true false ep eq es et e = absurd (both_ways false refl e)
    back false q false t ep eq es et e = absurd (both_ways false refl e)

-- ---- lists

pub or_regroup : (o a b : Bool) → (o || (a || b)) ≡ ((o || a) || b)
or_regroup true a b = refl
or_regroup false a b = refl
