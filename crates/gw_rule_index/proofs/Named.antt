-- The fields that have a bound are those that some rule names; those that are left out count for nothing.
use Rattle.std.proofs.Common.{◌≡◌, ℕ, ◌+◌, ◌≤◌, ◌<◌, ◌==◌, Bool, true, false, ◌&&◌, cond, not, List, [], ◌∷◌, length, get_or, arith, ap, refl, subst, sym, ◌∙◌}
use Rattle.std.specs.List.{filter, list_all, sum_by}
use Rattle.std.proofs.lemmas.Bool.{eqb-true}
use Rattle.std.proofs.lemmas.List.Elements.{filter_agree, filter_passes}
use Rattle.std.proofs.lemmas.List.Filters.{sum_by-filter_both}
use Rattle.std.proofs.lemmas.List.Sums.{count_by-le-length, length-filter, sum_by-cons}
use Rattle.gw_rules.specs.Fields.{value_of}
use Rattle.gw_rules.specs.declared.field.FieldName.{FieldName}
use Rattle.gw_rules.specs.declared.field.TheConstants.FieldName.{ALL}
use Rattle.gw_rules.specs.declared.rule.Rule.{Rule}
use Rattle.gw_rule_index.specs.Comparisons.{is_named}
use Rattle.gw_rule_index.specs.declared.field_index.FieldIndex.{FieldIndex}
use Rattle.gw_rule_index.specs.declared.field_indexes.FieldIndexes.{FieldIndexes}
use Rattle.gw_rule_index.specs.internal.Field.{IsIndexOf, has_bounds}
use Rattle.gw_rule_index.proofs.Fields.{none_named}

not_false : (b : Bool) → not b ≡ false → b ≡ true
not_false true e = refl
not_false false e = absurd (cc)

-- a field has a bound exactly if some rule names it
bounded : (rules : List Rule) (field : FieldName) (index : FieldIndex) → IsIndexOf rules field index → has_bounds index ≡ is_named rules field
bounded rules field index is = at (is_named rules field) (has_bounds index) refl refl
  where
    at : (named has : Bool) → is_named rules field ≡ named → has_bounds index ≡ has → has ≡ named
    at true true n h = refl
    at false false n h = refl
    at true false n h =
        let empty : length index.bounds.items ≡ 0 = eqb-true (length index.bounds.items) 0 (not_false (length index.bounds.items == 0) h) in
        sym (none_named rules field (is.unnamed empty)) ∙ n
    at false true n h = sym h ∙ ap (λ k. not (k == 0)) (is.skipped n)

pub named_fields_are : (rules : List Rule) (fields : FieldIndexes) → ((field : FieldName) → IsIndexOf rules field (value_of field fields.each)) → fields.named.items ≡ filter (is_named rules) ALL
named_fields_are rules fields are =
    fields.in_order
    ∙ filter_agree (λ field. has_bounds (value_of field fields.each)) (is_named rules) (λ field. bounded rules field (value_of field fields.each) (are field)) ALL

pub named_has_bounds : (fields : FieldIndexes) (k : ℕ) (d : FieldName) → k < length fields.named.items → has_bounds (value_of (get_or fields.named.items k d) fields.each) ≡ true
named_has_bounds fields =
    subst (λ names. (k : ℕ) (d : FieldName) → k < length names → has_bounds (value_of (get_or names k d) fields.each) ≡ true) (sym fields.in_order)
    (filter_passes (λ field. has_bounds (value_of field fields.each)) ALL)

pub few_named : (fields : FieldIndexes) → length fields.named.items ≤ 12
few_named fields =
    let p : FieldName → Bool = λ field. has_bounds (value_of field fields.each) in
    omega (arith, ap length fields.in_order, length-filter p ALL, count_by-le-length p ALL)

-- what the fields that are named have in all is at most what all fields have
pub sum_fewer : (fields : FieldIndexes) (f : FieldName → ℕ) → sum_by f fields.named.items ≤ sum_by f ALL
sum_fewer fields f =
    let p : FieldName → Bool = λ field. has_bounds (value_of field fields.each) in
    let both = sum_by-filter_both p (λ field. not (p field)) (λ field. refl) f ALL in
    let named = ap (sum_by f) fields.in_order in
    omega (arith, both, named)

one_named : (f : FieldName → ℕ) (b : Bool) (field : FieldName) (rest : List FieldName) → sum_by f (cond b (field ∷ rest) rest) ≡ cond b (f field) 0 + sum_by f rest
one_named f true field rest = sum_by-cons f field rest
one_named f false field rest = omega arith

-- a sum over the fields that pass a test
pub sum_named : (q : FieldName → Bool) (f : FieldName → ℕ) (fields : List FieldName) → sum_by f (filter q fields) ≡ sum_by (λ field. cond (q field) (f field) 0) fields
sum_named q f [] = refl
sum_named q f (field ∷ fields) =
    one_named f (q field) field (filter q fields)
    ∙ ap (λ n. cond (q field) (f field) 0 + n) (sum_named q f fields)
    ∙ sym (sum_by-cons (λ field. cond (q field) (f field) 0) field fields)

one_passes : (q : FieldName → Bool) (b : Bool) (field : FieldName) (rest fields : List FieldName) → (b ≡ false → q field ≡ true) → list_all q rest ≡ list_all q fields → list_all q (cond b (field ∷ rest) rest) ≡ (q field && list_all q fields)
one_passes q true field rest fields none same = ap (λ b. q field && b) same
one_passes q false field rest fields none same =
    same ∙ sym (ap (λ b. b && list_all q fields) (none refl))

-- a test that those that are left out pass
pub all_kept : (p q : FieldName → Bool) (fields : List FieldName) → ((field : FieldName) → p field ≡ false → q field ≡ true) → list_all q (filter p fields) ≡ list_all q fields
all_kept p q [] none = refl
all_kept p q (field ∷ fields) none =
    one_passes q (p field) field (filter p fields) fields (none field) (all_kept p q fields none)
