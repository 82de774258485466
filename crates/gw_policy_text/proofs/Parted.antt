-- The ranges of rules and assertions are within their limits.
use Rattle.std.proofs.Common.{◌≡◌, ◌∙◌, ◌≤◌, ◌&&◌, ◌||◌, ◌++◌, ◌∷◌, [], ℕ, Bool, List, true, false, not, length, filter, refl, ap, arith, sym, nat_le, cond, codes}
use Rattle.std.specs.Prelude.{if◌then◌else◌}
use Rattle.std.specs.List.{list_all}
use Rattle.std.proofs.lemmas.Bool.{and_from, and_parts, le-leb, leb-true}
use Rattle.toml.specs.Data.{Members}
use Rattle.gw_rules.proofs.EachField.{each_field_at, each_field_from}
use Rattle.gw_rules.specs.Bounds.{are_bounded, bounds, is_within}
use Rattle.gw_rules.specs.Fields.{value_of}
use Rattle.gw_rules.specs.Format.{names_stations}
use Rattle.gw_rules.specs.Name.{is_name, is_no_rule}
use Rattle.gw_rules.specs.declared.field.FieldName.{FieldName}
use Rattle.gw_rules.specs.declared.field.FieldName.TheVariants as fields
use Rattle.gw_rules.specs.declared.fields.Fields.{Fields}
use Rattle.gw_rules.specs.declared.format.Format.{Format}
use Rattle.gw_rules.specs.declared.format.Format.TheVariants as formats
use Rattle.gw_rules.specs.declared.range.Range.{Range}
use Rattle.gw_configuration.specs.declared.shape.Naming.TheVariants as namings
use Rattle.gw_configuration.specs.Configuration.{has_long_fields}
use Rattle.gw_policy_text.specs.keys.Tables.{is_both_ways, limits_for, naming_by}
use Rattle.gw_policy_text.specs.Policy.{is_operation, operations_of}
use Rattle.gw_policy_text.specs.internal.Limits.{are_limited, is_limited}
use Rattle.gw_policy_text.proofs.Joined.{joined_name, wider}

-- what an assertion has in the place of operations

operations_within : (items : List Range) → list_all (is_within (record { low = 1; high = 15 })) items ≡ true → list_all (is_within (record { low = 1; high = 13 })) (operations_of items) ≡ true
operations_within [] all = refl
operations_within (item ∷ items) all =
    let parts = and_parts (is_within (record { low = 1; high = 15 }) item) (list_all (is_within (record { low = 1; high = 15 })) items) all in
    let ends = and_parts (nat_le 1 item.low) (nat_le item.high 15) parts.0 in
    by (nat_le item.high 13) refl ends.0 (operations_within items parts.1)
  where
    by : (b : Bool) → nat_le item.high 13 ≡ b → nat_le 1 item.low ≡ true → list_all (is_within (record { low = 1; high = 13 })) (operations_of items) ≡ true
        → list_all (is_within (record { low = 1; high = 13 })) (cond b (item ∷ operations_of items) (operations_of items)) ≡ true
    by true high low later = rw (low, high, later) refl
    by false high low later = later

operations_few : (items : List Range) → length (operations_of items) ≤ length items
operations_few [] = omega arith
operations_few (item ∷ items) = by (nat_le item.high 13) (operations_few items)
  where
    by : (b : Bool) → length (operations_of items) ≤ length items → length (cond b (item ∷ operations_of items) (operations_of items)) ≤ length (item ∷ items)
    by true few = omega (arith, few)
    by false few = omega (arith, few)

pub assertable : (name : List ℕ) (ranges : Fields (List Range)) (operations : List Range) → not (is_no_rule name) ≡ true → operations ≡ operations_of ranges.operation → are_limited namings.Assertion ranges ≡ true
    → (not (is_no_rule name) && (are_bounded formats.Three (record ranges { operation = operations }) && has_long_fields (record ranges { operation = operations }))) ≡ true
assertable name ranges operations own is limited =
    and_from (not (is_no_rule name)) _ own
    (and_from (are_bounded formats.Three made) (has_long_fields made)
    (each_field_from (λ field. list_all (is_within (bounds formats.Three field)) (value_of field made)) within)
    (each_field_from (λ field. nat_le (length (value_of field made)) 256) few))
  where
    made : Fields (List Range)
    made = record ranges { operation = operations }

    at : (field : FieldName) → (list_all (is_within (limits_for namings.Assertion field)) (value_of field ranges) ≡ true) × (nat_le (length (value_of field ranges)) 256 ≡ true)
    at field =
        and_parts (list_all (is_within (limits_for namings.Assertion field)) (value_of field ranges)) (nat_le (length (value_of field ranges)) 256)
        (each_field_at (λ f. is_limited namings.Assertion f (value_of f ranges)) limited field)

    within : (field : FieldName) → list_all (is_within (bounds formats.Three field)) (value_of field made) ≡ true
    within fields.Operation = ap (list_all (is_within (record { low = 1; high = 13 }))) is ∙ operations_within ranges.operation (at fields.Operation).0
    within fields.Port = (at fields.Port).0
    within fields.SourceNetwork = (at fields.SourceNetwork).0
    within fields.SourceKey = (at fields.SourceKey).0
    within fields.DestinationNetwork = (at fields.DestinationNetwork).0
    within fields.Service = (at fields.Service).0
    within fields.ObjectType = (at fields.ObjectType).0
    within fields.Instance = (at fields.Instance).0
    within fields.Property = (at fields.Property).0
    within fields.Priority = (at fields.Priority).0
    within fields.Sender = (at fields.Sender).0
    within fields.Station = (at fields.Station).0

    few : (field : FieldName) → nat_le (length (value_of field made)) 256 ≡ true
    few fields.Operation =
        let most : length ranges.operation ≤ 256 = leb-true (length ranges.operation) 256 (at fields.Operation).1 in
        let fewer = operations_few ranges.operation in
        let same : length operations ≡ length (operations_of ranges.operation) = ap length is in
        le-leb (length operations) 256 (omega (arith, same, fewer, most))
    few fields.Port = (at fields.Port).1
    few fields.SourceNetwork = (at fields.SourceNetwork).1
    few fields.SourceKey = (at fields.SourceKey).1
    few fields.DestinationNetwork = (at fields.DestinationNetwork).1
    few fields.Service = (at fields.Service).1
    few fields.ObjectType = (at fields.ObjectType).1
    few fields.Instance = (at fields.Instance).1
    few fields.Property = (at fields.Property).1
    few fields.Priority = (at fields.Priority).1
    few fields.Sender = (at fields.Sender).1
    few fields.Station = (at fields.Station).1

-- a rule

plain_bounded : (format : Format) (ranges : Fields (List Range)) → are_limited (namings.Rule format) ranges ≡ true → are_bounded format ranges ≡ true
plain_bounded format ranges limited =
    each_field_from (λ field. list_all (is_within (bounds format field)) (value_of field ranges))
    (λ field. (and_parts (list_all (is_within (bounds format field)) (value_of field ranges)) (nat_le (length (value_of field ranges)) 256)
    (each_field_at (λ f. is_limited (namings.Rule format) f (value_of f ranges)) limited field)).0)

both_at : (ranges : Fields (List Range)) → are_limited namings.BothWays ranges ≡ true → (field : FieldName) → list_all (is_within (limits_for namings.BothWays field)) (value_of field ranges) ≡ true
both_at ranges limited field =
    (and_parts (list_all (is_within (limits_for namings.BothWays field)) (value_of field ranges)) (nat_le (length (value_of field ranges)) 256)
    (each_field_at (λ f. is_limited namings.BothWays f (value_of f ranges)) limited field)).0

both_bounded : (ranges : Fields (List Range)) → are_limited namings.BothWays ranges ≡ true → are_bounded formats.Three ranges ≡ true
both_bounded ranges limited = each_field_from (λ field. list_all (is_within (bounds formats.Three field)) (value_of field ranges)) within
  where
    within : (field : FieldName) → list_all (is_within (bounds formats.Three field)) (value_of field ranges) ≡ true
    within fields.Operation = both_at ranges limited fields.Operation
    within fields.Port = both_at ranges limited fields.Port
    within fields.SourceNetwork = both_at ranges limited fields.SourceNetwork
    within fields.SourceKey = both_at ranges limited fields.SourceKey
    within fields.DestinationNetwork =
        wider (limits_for namings.BothWays fields.DestinationNetwork) (bounds formats.Three fields.DestinationNetwork) (omega arith) (omega arith) ranges.destination_network (both_at ranges limited fields.DestinationNetwork)
    within fields.Service = both_at ranges limited fields.Service
    within fields.ObjectType = both_at ranges limited fields.ObjectType
    within fields.Instance = both_at ranges limited fields.Instance
    within fields.Property = both_at ranges limited fields.Property
    within fields.Priority = both_at ranges limited fields.Priority
    within fields.Sender = both_at ranges limited fields.Sender
    within fields.Station = both_at ranges limited fields.Station

pub bounded : (format : Format) (table : Members) (ranges : Fields (List Range)) → are_limited (naming_by format (is_both_ways format table)) ranges ≡ true → are_bounded format ranges ≡ true
bounded formats.One table ranges limited = plain_bounded formats.One ranges limited
bounded formats.Two table ranges limited = plain_bounded formats.Two ranges limited
bounded formats.Three table ranges limited = by (is_both_ways formats.Three table) limited
  where
    by : (both : Bool) → are_limited (naming_by formats.Three both) ranges ≡ true → are_bounded formats.Three ranges ≡ true
    by true l = both_bounded ranges l
    by false l = plain_bounded formats.Three ranges l

-- and what goes with it

pub joined : (format : Format) (table : Members) (name : List ℕ) (ranges : Fields (List Range)) → is_name name ≡ true → (not (is_both_ways format table) || nat_le (length name) 27) ≡ true
    → are_limited (naming_by format (is_both_ways format table)) ranges ≡ true
    → (not (is_both_ways format table) || ((is_name (name ++ codes "-way") && is_name (name ++ codes "-back"))
    && (names_stations format && list_all (is_within (record { low = 1; high = 65534 })) ranges.destination_network))) ≡ true
joined formats.One table name ranges is short limited = refl
joined formats.Two table name ranges is short limited = refl
joined formats.Three table name ranges is short limited = by (is_both_ways formats.Three table) short limited
  where
    by : (both : Bool) → (not both || nat_le (length name) 27) ≡ true → are_limited (naming_by formats.Three both) ranges ≡ true
        → (not both || ((is_name (name ++ codes "-way") && is_name (name ++ codes "-back"))
        && (true && list_all (is_within (record { low = 1; high = 65534 })) ranges.destination_network))) ≡ true
    by false s l = refl
    by true s l =
        let brief : length name ≤ 27 = leb-true (length name) 27 s in
        let way = joined_name name (codes "-way") is brief (omega arith) refl in
        let back = joined_name name (codes "-back") is brief (omega arith) refl in
        rw (way, back, both_at ranges l fields.DestinationNetwork) refl
