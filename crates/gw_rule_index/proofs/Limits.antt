-- How many comparisons and ANDs an ask costs at most, by the fields that some rule names.
use Rattle.std.proofs.Common.{◌≡◌, ℕ, ◌+◌, ◌*◌, ◌≤◌, Bool, true, false, cond, List, [], ◌∷◌, take, drop, get_or, Option, arith, ap, refl}
use Rattle.std.proofs.lemmas.List.Sums.{sum_by-cons, sum_by-le, sum_by-take-drop}
use Rattle.gw_rules.specs.Ask.{Ask}
use Rattle.gw_rules.specs.Fields.{value_of}
use Rattle.gw_rules.specs.declared.field.FieldName.{FieldName}
use Rattle.gw_rules.specs.declared.field.FieldName.TheVariants.{Sender, Station}
use Rattle.gw_rules.specs.declared.field.TheConstants.FieldName.{ALL}
use Rattle.gw_rules.specs.declared.rule.Rule.{Rule}
use Rattle.gw_rule_index.specs.Comparisons.{is_named, most_comparisons, most_named_comparisons, most_named_comparisons_in, most_named_comparisons_of, named_fields, named_fields_in}
use Rattle.gw_rule_index.proofs.Fields.{few_comparisons}

one_field : (b : Bool) (value : Option ℕ) → cond b (most_comparisons value) 0 ≤ 13 * cond b 1 0
one_field true value = few_comparisons value
one_field false value = omega arith

-- thirteen comparisons for each of some fields that some rule names
named_in : (rules : List Rule) (ask : Ask) (fields : List FieldName) → most_named_comparisons_in rules ask fields ≤ 13 * named_fields_in rules fields
named_in rules ask [] = omega arith
named_in rules ask (field ∷ fields) =
    let here = one_field (is_named rules field) (value_of field ask) in
    let rest = named_in rules ask fields in
    let more = sum_by-cons (λ field. most_named_comparisons rules field (value_of field ask)) field fields in
    let named = sum_by-cons (λ field. cond (is_named rules field) 1 0) field fields in
    omega (arith, here, rest, more, named)

pub each_named : (rules : List Rule) (ask : Ask) → most_named_comparisons_of rules ask ≤ 13 * named_fields rules
each_named rules ask = named_in rules ask ALL

at_most_one : (b : Bool) → cond b 1 0 ≤ 1
at_most_one true = omega arith
at_most_one false = omega arith

-- at most ten of the fields are others than sender and station
pub ten_named : (rules : List Rule) → is_named rules Sender ≡ false → is_named rules Station ≡ false → named_fields rules ≤ 10
ten_named rules sender station =
    let parts : named_fields_in rules (take 10 ALL) + named_fields_in rules (drop 10 ALL) ≡ named_fields rules = sum_by-take-drop (λ field. cond (is_named rules field) 1 0) ALL 10 in
    let first : named_fields_in rules (take 10 ALL) ≤ 10 * 1 = sum_by-le (λ field. cond (is_named rules field) 1 0) 1 (take 10 ALL) (λ k d within. at_most_one (is_named rules (get_or (take 10 ALL) k d))) in
    let one = ap {B = ℕ} (λ b. cond b 1 0) sender in
    let two = ap {B = ℕ} (λ b. cond b 1 0) station in
    let last : named_fields_in rules (drop 10 ALL) ≡ 0 + cond (is_named rules Sender) 1 0 + cond (is_named rules Station) 1 0 = refl in
    omega (arith, parts, first, one, two, last)
