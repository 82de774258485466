-- The objects of a comparison have numbers below 2^64, and aren't deep.
use Rattle.std.proofs.Common.{ℕ, ◌^◌, ◌<◌, ◌≤◌, Bool, true, false, List, [], ◌∷◌, ◌++◌, map, Option, inl, inr, decimal, refl, arith}
use Rattle.std.specs.Prelude.{codes, if◌then◌else◌, nat_le, nat_lt, slice_get, ◌-◌, ◌==◌}
use Rattle.std.specs.List.{list_all}
use Rattle.std.proofs.lemmas.Bool.{cases_Bool}
use Rattle.std.specs.Str.Lines.{lines}
use Rattle.json.specs.Json.{Json, array, null, boolean, number, string, no_members}
use Rattle.gw_ask_sets.specs.regions.Values.{has_operation}
use Rattle.gw_json.specs.Comparison.{deciders_members, differences_value, end_value, field_member, found_value, is_nothing, lines_value, named_operation, operations_value, other_fields, range_value, range_values, ranges_value, rule_value, rules_value, summary_value, values_value, verdict_word}
use Rattle.gw_json.specs.Document.{items_of, members_of}
use Rattle.gw_json.specs.Laws.{ComparisonsRead, DifferencesRead, DifferencesStay, SummariesRead}
use Rattle.gw_json.proofs.Documents.{AreShallow, IsShallow, array_shallow, boolean_shallow, chosen_shallow, line_read, mapped_shallow, member_shallow, none_shallow, null_shallow, number_shallow, object_shallow, or_shallow, string_shallow, wider}
use Rattle.gw_json.proofs.Plain.{Each}
use Rattle.gw_ask_sets.specs.regions.Ranges.{between, greater, lesser}
use Rattle.gw_ask_sets.specs.regions.Regions.{Region}
use Rattle.gw_ask_sets.specs.regions.Values.{is_any}
use Rattle.gw_ask_sets.specs.declared.regions.comparison.Found.{Found}
use Rattle.gw_ask_sets.specs.declared.regions.values.Values.{Values}
use Rattle.gw_rules.specs.Field.{field_key}
use Rattle.gw_rules.specs.Bounds.{bounds}
use Rattle.gw_rules.specs.Fields.{value_of}
use Rattle.gw_rules.specs.Operation.{operation_name}
use Rattle.gw_rules.specs.declared.field.FieldName.{FieldName}
use Rattle.gw_rules.specs.declared.field.FieldName.TheVariants as fields
use Rattle.gw_rules.specs.declared.format.Format.TheVariants.{Three}
use Rattle.gw_rules.specs.declared.operation.TheConstants.Operation.{ALL}
use Rattle.gw_rules.specs.declared.range.Range.{Range}
use Rattle.gw_rules.specs.declared.rule.Rule.{Rule}

end_shallow : (field : FieldName) (n : ℕ) → n < 2 ^ 64 → IsShallow 0 (end_value field n)
end_shallow fields.Operation n fits = number_shallow 0 n fits
end_shallow fields.Port n fits = number_shallow 0 n fits
end_shallow fields.SourceNetwork n fits = number_shallow 0 n fits
end_shallow fields.SourceKey n fits = string_shallow 0 _
end_shallow fields.DestinationNetwork n fits = number_shallow 0 n fits
end_shallow fields.Service n fits = number_shallow 0 n fits
end_shallow fields.ObjectType n fits = number_shallow 0 n fits
end_shallow fields.Instance n fits = number_shallow 0 n fits
end_shallow fields.Property n fits = number_shallow 0 n fits
end_shallow fields.Priority n fits = number_shallow 0 n fits
end_shallow fields.Sender n fits = string_shallow 0 _
end_shallow fields.Station n fits = string_shallow 0 _

bound_small : (field : FieldName) → (bounds Three field).high < 2 ^ 64
bound_small fields.Operation = omega arith
bound_small fields.Port = omega arith
bound_small fields.SourceNetwork = omega arith
bound_small fields.SourceKey = omega arith
bound_small fields.DestinationNetwork = omega arith
bound_small fields.Service = omega arith
bound_small fields.ObjectType = omega arith
bound_small fields.Instance = omega arith
bound_small fields.Property = omega arith
bound_small fields.Priority = omega arith
bound_small fields.Sender = omega arith
bound_small fields.Station = omega arith

lesser_most : (a b : ℕ) → lesser a b ≤ b
lesser_most a b = elim (cases_Bool (nat_lt b a)) [
  | inl above ↦ rw above (omega arith)
  | inr under ↦ rw under (grind (arith, under))
]

range_shallow : (field : FieldName) (low high : ℕ) → low < 2 ^ 64 → high < 2 ^ 64 → IsShallow 1 (range_value field (between low high))
range_shallow field low high small big =
    let first = end_shallow field low small in
    let last = end_shallow field high big in
    record { decimals = (first.decimals, (last.decimals, tt)); shallow = omega (arith, first.shallow, last.shallow) }

each_range : (field : FieldName) (range : Range) → Each (IsShallow 1) (range_values field range)
each_range field range =
    let low = greater range.low (bounds Three field).low in
    let high = lesser range.high (bounds Three field).high in
    let big : high < 2 ^ 64 = omega (arith, lesser_most range.high (bounds Three field).high, bound_small field) in
    elim (cases_Bool (nat_le low high)) [
      | inl some ↦ rw some (range_shallow field low high (grind (arith, some, big)) big, tt)
      | inr none ↦ rw none tt
    ]

values_shallow : (field : FieldName) (values : Values) → IsShallow 3 (values_value field values)
values_shallow field values =
    let ranges : IsShallow 2 (ranges_value field values.ranges) = array_shallow 1 (range_values field) values.ranges (each_range field) in
    chosen_shallow 3 (is_any values) null _ (null_shallow 3)
    (object_shallow 2 _ (member_shallow 2 (codes "absent") (boolean values.absent) _ (boolean_shallow 2 values.absent)
    (member_shallow 2 (codes "ranges") (ranges_value field values.ranges) no_members ranges (none_shallow 2))))

named_shallow : (b : Bool) (text : List ℕ) → Each (IsShallow 0) (if b then string text ∷ [] else [])
named_shallow true text = (string_shallow 0 text, tt)
named_shallow false text = tt

operations_shallow : (values : Values) → IsShallow 1 (operations_value values)
operations_shallow values =
    chosen_shallow 1 (list_all (has_operation values) ALL) null _ (null_shallow 1)
    (array_shallow 0 (named_operation values) ALL (λ operation. named_shallow (has_operation values operation) (operation_name operation)))

fields_shallow : (region : Region) (names : List FieldName) (rest : List (List ℕ × Json)) → AreShallow 3 (members_of rest)
    → AreShallow 3 (members_of (map (field_member region) names ++ rest))
fields_shallow region [] rest are = are
fields_shallow region (field ∷ names) rest are =
    member_shallow 3 (field_key field) (values_value field (value_of field region)) _
    (values_shallow field (value_of field region)) (fields_shallow region names rest are)

rule_shallow : (rules : List Rule) (place : ℕ) → IsShallow 0 (rule_value rules place)
rule_shallow rules place =
    chosen_shallow 0 (place == 0) (string (codes "default")) _ (string_shallow 0 (codes "default"))
    (or_shallow 0 (λ rule. string rule.name) (slice_get rules (place - 1)) null (λ rule. string_shallow 0 rule.name) (null_shallow 0))

pub rules_shallow : (rules : List Rule) (places : List ℕ) → IsShallow 1 (rules_value rules places)
rules_shallow rules places = mapped_shallow 0 (rule_value rules) places (rule_shallow rules)

found_shallow : (old new : List Rule) (f : Found) → IsShallow 4 (found_value old new f)
found_shallow old new f =
    let by = wider 1 3 (rules_value new f.new_rules.items) (omega arith) (rules_shallow new f.new_rules.items) in
    let was = wider 1 3 (rules_value old f.old_rules.items) (omega arith) (rules_shallow old f.old_rules.items) in
    let ops = wider 1 3 (operations_value f.region.operation) (omega arith) (operations_shallow f.region.operation) in
    object_shallow 3 _ (member_shallow 3 (codes "verdict") (string (verdict_word f.allows)) _ (string_shallow 3 (verdict_word f.allows))
    (member_shallow 3 (codes "operation") (operations_value f.region.operation) _ ops
    (fields_shallow f.region other_fields (deciders_members old new f)
    (member_shallow 3 (codes "by") (rules_value new f.new_rules.items) _ by
    (member_shallow 3 (codes "was_by") (rules_value old f.old_rules.items) no_members was (none_shallow 3))))))

pub comparisons_read : ComparisonsRead
comparisons_read old new f = line_read 4 (found_value old new f) (omega arith) (found_shallow old new f)

summary_shallow : (kinds steps : ℕ) (finished : Bool) → kinds < 2 ^ 64 → steps < 2 ^ 64 → IsShallow 1 (summary_value kinds finished steps)
summary_shallow kinds steps finished few short =
    object_shallow 0 _ (member_shallow 0 (codes "kinds") (number (decimal kinds)) _ (number_shallow 0 kinds few)
    (member_shallow 0 (codes "finished") (boolean finished) _ (boolean_shallow 0 finished)
    (member_shallow 0 (codes "steps") (number (decimal steps)) no_members (number_shallow 0 steps short) (none_shallow 0))))

lines_shallow : (text : Option (List ℕ)) → IsShallow 1 (lines_value text)
lines_shallow text =
    or_shallow 1 (λ (text : List ℕ). array (items_of (map string (lines text)))) text null
    (λ text. mapped_shallow 0 string (lines text) (string_shallow 0)) (null_shallow 1)

assertions_shallow : (b : Bool) (text : Option (List ℕ))
    → AreShallow 1 (members_of (if b then [] else (codes "asserts", lines_value text) ∷ []))
assertions_shallow true text = none_shallow 1
assertions_shallow false text = member_shallow 1 (codes "asserts") (lines_value text) no_members (lines_shallow text) (none_shallow 1)

pub differences_read : DifferencesRead
differences_read names details asserts =
    line_read 2 (differences_value names details asserts) (omega arith)
    (object_shallow 1 _ (member_shallow 1 (codes "differ") (lines_value names) _ (lines_shallow names)
    (member_shallow 1 (codes "details") (lines_value details) _ (lines_shallow details) (assertions_shallow (is_nothing asserts) asserts))))

pub differences_stay : DifferencesStay
differences_stay names details = refl

pub summaries_read : SummariesRead
summaries_read kinds steps finished few short =
    line_read 1 (summary_value kinds finished steps) (omega arith) (summary_shallow kinds steps finished few short)
