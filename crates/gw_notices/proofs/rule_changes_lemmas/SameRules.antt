-- Two rules that `same_rule` takes for one are equal, and the converse.
use Rattle.std.proofs.Common.{◌≡◌, ◌∙◌, ◌↔◌, refl, sym, subst, ap₂, true≢false, ℕ, Bool, true, false, nat_eq, List, [], ◌∷◌}
use Rattle.std.specs.Prelude.{IsTrue}
use Rattle.std.specs.Cmp.{nat_eq_equiv}
use Rattle.std.specs.Cmp.Lexicographic.{pointwise, same_text}
use Rattle.std.proofs.lemmas.Bool.{and_from, and_parts, eqb-true}
use Rattle.std.proofs.lemmas.Cmp.{nat_list_eq_equiv}
use Rattle.gw_rules.proofs.EachField.{each_field_at, each_field_from, fields_alike}
use Rattle.gw_rules.specs.Rule.{each_field, ranges_of}
use Rattle.gw_rules.specs.declared.fields.Fields.{Fields}
use Rattle.gw_rules.specs.declared.range.Range.{Range}
use Rattle.gw_rules.specs.declared.rule.Rule.{Rule}
use Rattle.gw_notices.specs.rule_changes.Changes.{same_field, same_range, same_rule, same_truth}

-- ---- the parts

equal_range : (a b : Range) → same_range a b ≡ true → a ≡ b
equal_range a b is =
    let parts = and_parts (nat_eq a.low b.low) (nat_eq a.high b.high) is in
    ap₂ (λ (low high : ℕ). record a { low = low; high = high }) (eqb-true a.low b.low parts.0) (eqb-true a.high b.high parts.1)

own_range : (a : Range) → same_range a a ≡ true
own_range a = and_from (nat_eq a.low a.low) (nat_eq a.high a.high) (nat_eq_equiv.refl a.low) (nat_eq_equiv.refl a.high)

equal_ranges : (xs ys : List Range) → pointwise same_range xs ys ≡ true → xs ≡ ys
equal_ranges [] [] is = refl
equal_ranges [] (y ∷ ys) is = absurd (true≢false (sym is))
equal_ranges (x ∷ xs) [] is = absurd (true≢false (sym is))
equal_ranges (x ∷ xs) (y ∷ ys) is =
    let parts = and_parts (same_range x y) (pointwise same_range xs ys) is in
    ap₂ (λ (r : Range) (rs : List Range). r ∷ rs) (equal_range x y parts.0) (equal_ranges xs ys parts.1)

own_ranges : (xs : List Range) → pointwise same_range xs xs ≡ true
own_ranges [] = refl
own_ranges (x ∷ xs) = and_from (same_range x x) (pointwise same_range xs xs) (own_range x) (own_ranges xs)

equal_truth : (a b : Bool) → same_truth a b ≡ true → a ≡ b
equal_truth true b is = sym is
equal_truth false true is = absurd (true≢false (sym is))
equal_truth false false is = refl

own_truth : (a : Bool) → same_truth a a ≡ true
own_truth true = refl
own_truth false = refl

-- ---- rules

equal_rule : (a b : Rule) → same_rule a b ≡ true → a ≡ b
equal_rule a b is =
    let one = and_parts (pointwise nat_eq a.name b.name) _ is in
    let two = and_parts (same_truth a.allow b.allow) _ one.1 in
    let three = and_parts (same_truth a.quiet b.quiet) (each_field (same_field a b)) two.1 in
    let ranges : a.ranges ≡ b.ranges =
    fields_alike a.ranges b.ranges
    (λ field. equal_ranges (ranges_of field a) (ranges_of field b) (each_field_at (same_field a b) three.1 field)) in
    ap₂ (λ (name : List ℕ) (allow : Bool). record a { name = name; allow = allow })
    (same_text a.name b.name (sym one.0)) (equal_truth a.allow b.allow two.0)
    ∙ ap₂ (λ (quiet : Bool) (each : Fields (List Range)). record b { quiet = quiet; ranges = each })
    (equal_truth a.quiet b.quiet three.0) ranges

own_rule : (a : Rule) → same_rule a a ≡ true
own_rule a =
    and_from (pointwise nat_eq a.name a.name) _ (nat_list_eq_equiv.refl a.name)
    (and_from (same_truth a.allow a.allow) _ (own_truth a.allow)
    (and_from (same_truth a.quiet a.quiet) (each_field (same_field a a)) (own_truth a.quiet)
    (each_field_from (same_field a a) (λ field. own_ranges (ranges_of field a)))))

-- ---- what a test finds

one_truth : (a b : Bool) → (a ≡ true → b ≡ true) → (b ≡ true → a ≡ true) → a ≡ b
one_truth true b there back = sym (there refl)
one_truth false true there back = back refl
one_truth false false there back = refl

-- a test that is true exactly of equal rules is `same_rule`
pub same_if_equal : (is : Bool) (a b : Rule) → (IsTrue is ↔ (a ≡ b)) → is ≡ same_rule a b
same_if_equal is a b exact =
    one_truth is (same_rule a b)
    (λ true_is. by (exact.0 true_is))
    (λ same. exact.1 (equal_rule a b same))
  where
    by : a ≡ b → same_rule a b ≡ true
    by same = subst (λ (r : Rule). same_rule a r ≡ true) same (own_rule a)
