-- Formats 1 and 2 have what they had.
use Rattle.std.proofs.Common.{◌≡◌, ◌||◌, ◌++◌, ℕ, Bool, true, false, cond, List, [], ◌∷◌, take, drop, not, Option, Some, None, Ok, Err, refl, sym, ap, ◌∙◌, nat_eq}
use Rattle.std.specs.Prelude.{if◌then◌else◌}
use Rattle.std.specs.List.{find, list_all, list_any, prefix_len}
use Rattle.std.specs.Option.{option_and_then, option_map}
use Rattle.std.proofs.lemmas.Bool.{and_parts}
use Rattle.std.specs.Cmp.Lexicographic.{pointwise}
use Rattle.toml.specs.Data.{Data, Members, get_member}
use Rattle.gw_rules.specs.declared.format.Format.{Format}
use Rattle.gw_rules.specs.declared.format.Format.TheVariants.{One, Two, Three}
use Rattle.gw_rules.specs.declared.operation.Operation.{Operation}
use Rattle.gw_rules.specs.declared.operation.TheConstants.Operation.{ALL}
use Rattle.gw_rules.specs.Operation.{operation_name}
use Rattle.gw_configuration.specs.declared.fault.ConfigFault.{ConfigFault}
use Rattle.gw_configuration.specs.declared.fault.ConfigFault.TheVariants.{NotToml, UnknownKey, Missing, Kind, Range, Duplicate, TooMany, Memory}
use Rattle.gw_configuration.specs.declared.located.Place.{Place}
use Rattle.gw_configuration.specs.declared.shape.Shape.{Shape}
use Rattle.gw_configuration.specs.declared.shape.Shape.TheVariants.{List as Listing, Ranges, Items}
use Rattle.gw_configuration.specs.declared.shape.Shape.TheVariants as shapes
use Rattle.gw_configuration.specs.Located.{Located, Read}
use Rattle.gw_policy_text.specs.keys.Field.{Field, at_field, fault_of, fault_where, field_fault, field_with, has, is_this, item_fault, item_of, item_with, listed_fault, located_as, located_beside, position_in, value_fault, values_fault}
use Rattle.gw_policy_text.specs.keys.Range.{is_kind, is_missing, is_range, is_too_many}
use Rattle.gw_policy_text.specs.keys.Tables.{rule_fields}
use Rattle.gw_policy_text.specs.keys.Laws.{HasEleven, IsBefore, KnowsNoOther, NamesNoSets}
use Rattle.gw_policy_text.specs.keys.Value.{is_nameable, list_in}
use Rattle.gw_configuration.specs.declared.shape.Naming.TheVariants.{Rule}

pub knows_no_other : (format : Format) → IsBefore format → KnowsNoOther format
knows_no_other One e = record { set = refl; announce = refl; assertion = refl; bbmd = refl; stations = refl; sender = refl; station = refl; note = refl; audit = refl; both_ways = refl; enabled = refl; quiet = refl }
knows_no_other Two e = record { set = refl; announce = refl; assertion = refl; bbmd = refl; stations = refl; sender = refl; station = refl; note = refl; audit = refl; both_ways = refl; enabled = refl; quiet = refl }
knows_no_other Three e = absurd cc

-- fields whose items name no sets

abbrev is_plain : Shape → Bool
is_plain (Items scalar) = false
is_plain _ = true

item_same : (sets : List Data) (shape : Shape) → is_plain shape ≡ true → (item : Data) → item_fault sets shape item ≡ item_fault [] shape item
item_same sets (shapes.One scalar) plain item = refl
item_same sets (Listing scalar least most) plain item = refl
item_same sets (Ranges scalar) plain item = refl
item_same sets (Items scalar) plain item = absurd cc

values_same : (sets : List Data) (shape : Shape) → is_plain shape ≡ true → (values : List Data) → values_fault sets shape values ≡ values_fault [] shape values
values_same sets (shapes.One scalar) plain values = refl
values_same sets (Listing scalar least most) plain values = refl
values_same sets (Ranges scalar) plain values = refl
values_same sets (Items scalar) plain values = absurd cc

listed_same : (sets : List Data) (shape : Shape) → is_plain shape ≡ true → (reading : Read (List Data)) → listed_fault sets shape reading ≡ listed_fault [] shape reading
listed_same sets shape plain (Ok values) = values_same sets shape plain values
listed_same sets shape plain (Err fault) = refl

value_same : (sets : List Data) (shape : Shape) → is_plain shape ≡ true → (value : Data) → value_fault sets shape value ≡ value_fault [] shape value
value_same sets (shapes.One scalar) plain value = refl
value_same sets (Listing scalar least most) plain value = listed_same sets (Listing scalar least most) plain (list_in value)
value_same sets (Ranges scalar) plain value = listed_same sets (Ranges scalar) plain (list_in value)
value_same sets (Items scalar) plain value = absurd cc

field_same : (sets : List Data) (table : Members) (field : Field) → is_plain field.shape ≡ true → field_fault sets table field ≡ field_fault [] table field
field_same sets table field plain = on (get_member field.key table)
  where
    on : (o : Option Data) → fault_where sets field o ≡ fault_where [] field o
    on None = refl
    on (Some value) = value_same sets field.shape plain value

has_same : (sets : List Data) (test : Option ConfigFault → Bool) (fields : List Field) (table : Members) → list_all (λ field. is_plain field.shape) fields ≡ true → has sets test fields table ≡ has [] test fields table
has_same sets test [] table plain = refl
has_same sets test (field ∷ fields) table plain =
    let parts = and_parts (is_plain field.shape) (list_all (λ f. is_plain f.shape) fields) plain in
    rw (field_same sets table field parts.0, has_same sets test fields table parts.1) refl

fault_same : (sets : List Data) (fields : List Field) (table : Members) → list_all (λ field. is_plain field.shape) fields ≡ true → fault_of sets fields table ≡ fault_of [] fields table
fault_same sets fields table plain =
    rw (has_same sets is_missing fields table plain, has_same sets is_kind fields table plain, has_same sets is_range fields table plain, has_same sets is_too_many fields table plain) refl

with_same : (sets : List Data) (fault : ConfigFault) (fields : List Field) (table : Members) → list_all (λ field. is_plain field.shape) fields ≡ true → field_with sets fault fields table ≡ field_with [] fault fields table
with_same sets fault [] table plain = refl
with_same sets fault (field ∷ fields) table plain =
    let parts = and_parts (is_plain field.shape) (list_all (λ f. is_plain f.shape) fields) plain in
    rw (field_same sets table field parts.0, with_same sets fault fields table parts.1) refl

found_plain : (test : Field → Bool) (fields : List Field) (field : Field) → list_all (λ f. is_plain f.shape) fields ≡ true → find test fields ≡ Some field → is_plain field.shape ≡ true
found_plain test [] field plain e = absurd cc
found_plain test (first ∷ fields) field plain e =
    let parts = and_parts (is_plain first.shape) (list_all (λ f. is_plain f.shape) fields) plain in
    on (test first) parts.0 (found_plain test fields field parts.1) e
  where
    on : (b : Bool) → is_plain first.shape ≡ true → (find test fields ≡ Some field → is_plain field.shape ≡ true) → cond b (Some first) (find test fields) ≡ Some field → is_plain field.shape ≡ true
    on true here later h = let same : first ≡ field = cc in ap (λ (f : Field). is_plain f.shape) (sym same) ∙ here
    on false here later h = later h

position_same : (p q : Data → Bool) → ((d : Data) → p d ≡ q d) → (ds : List Data) → prefix_len (λ d. not (p d)) ds ≡ prefix_len (λ d. not (q d)) ds
position_same p q same [] = refl
position_same p q same (d ∷ ds) = rw (same d, position_same p q same ds) refl

with_items_same : (sets : List Data) (fault : ConfigFault) (shape : Shape) (items : List Data) → is_plain shape ≡ true → item_with sets fault shape items ≡ item_with [] fault shape items
with_items_same sets NotToml shape items plain = refl
with_items_same sets UnknownKey shape items plain = refl
with_items_same sets Missing shape items plain = refl
with_items_same sets Kind shape items plain =
    rw (position_same (λ d. is_kind (item_fault sets shape d)) (λ d. is_kind (item_fault [] shape d)) (λ d. ap is_kind (item_same sets shape plain d)) items) refl
with_items_same sets Range shape items plain =
    rw (position_same (λ d. is_range (item_fault sets shape d)) (λ d. is_range (item_fault [] shape d)) (λ d. ap is_range (item_same sets shape plain d)) items) refl
with_items_same sets Duplicate shape items plain = refl
with_items_same sets TooMany shape items plain = refl
with_items_same sets Memory shape items plain = refl

item_of_same : (sets : List Data) (fault : ConfigFault) (shape : Shape) (value : Option Data) → is_plain shape ≡ true → item_of sets fault shape value ≡ item_of [] fault shape value
item_of_same sets fault shape None plain = refl
item_of_same sets fault shape (Some value) plain = on (list_in value)
  where
    on : (reading : Read (List Data)) → position_in sets fault shape reading ≡ position_in [] fault shape reading
    on (Ok items) = with_items_same sets fault shape items plain
    on (Err other) = refl

at_same : (sets : List Data) (place : Place) (fault : ConfigFault) (table : Members) (field : Field) → is_plain field.shape ≡ true → at_field sets place fault table (Some field) ≡ at_field [] place fault table (Some field)
at_same sets place fault table field plain = rw (item_of_same sets fault field.shape (get_member field.key table) plain) refl

found_same : (sets : List Data) (place : Place) (fields : List Field) (table : Members) (fault : ConfigFault) → list_all (λ field. is_plain field.shape) fields ≡ true → at_field sets place fault table (field_with sets fault fields table) ≡ at_field [] place fault table (field_with [] fault fields table)
found_same sets place fields table fault plain =
    ap (at_field sets place fault table) (with_same sets fault fields table plain) ∙ on (field_with [] fault fields table) refl
  where
    on : (o : Option Field) → field_with [] fault fields table ≡ o → at_field sets place fault table o ≡ at_field [] place fault table o
    on None e = refl
    on (Some field) e =
        at_same sets place fault table field (found_plain (λ f. is_this fault (field_fault [] table f)) fields field plain e)

as_same : (sets : List Data) (place : Place) (fields : List Field) (table : Members) (fault : ConfigFault) → list_all (λ field. is_plain field.shape) fields ≡ true → located_as sets place fields table fault ≡ located_as [] place fields table fault
as_same sets place fields table NotToml plain = found_same sets place fields table NotToml plain
as_same sets place fields table UnknownKey plain = refl
as_same sets place fields table Missing plain = found_same sets place fields table Missing plain
as_same sets place fields table Kind plain = found_same sets place fields table Kind plain
as_same sets place fields table Range plain = found_same sets place fields table Range plain
as_same sets place fields table Duplicate plain = found_same sets place fields table Duplicate plain
as_same sets place fields table TooMany plain = found_same sets place fields table TooMany plain
as_same sets place fields table Memory plain = found_same sets place fields table Memory plain

located_same : (sets : List Data) (place : Place) (fields : List Field) (table : Members) → list_all (λ field. is_plain field.shape) fields ≡ true → located_beside sets place fields table ≡ located_beside [] place fields table
unfolding located_beside
located_same sets place fields table plain =
    ap (option_map (located_as sets place fields table)) (fault_same sets fields table plain) ∙ on (fault_of [] fields table)
  where
    on : (o : Option ConfigFault) → option_map (located_as sets place fields table) o ≡ option_map (located_as [] place fields table) o
    on None = refl
    on (Some fault) = ap (λ (l : Located). Some l) (as_same sets place fields table fault plain)

pub names_no_sets : (format : Format) → IsBefore format → NamesNoSets format
names_no_sets One e sets place table = located_same sets place (rule_fields One table) table refl
names_no_sets Two e sets place table = located_same sets place (rule_fields Two table) table refl
names_no_sets Three e sets place table = absurd cc

-- what is found and kept is found among those that are kept, if they come first

kept : (Operation → Bool) → Operation → Option Operation
kept keep o = if keep o then Some o else None

none_kept : (keep test : Operation → Bool) (ys : List Operation) → list_any keep ys ≡ false → option_and_then (kept keep) (find test ys) ≡ None
unfolding kept
none_kept keep test [] e = refl
none_kept keep test (y ∷ ys) e = on (test y) (keep y) refl (none_kept keep test ys) e
  where
    on : (b k : Bool) → keep y ≡ k → (list_any keep ys ≡ false → option_and_then (kept keep) (find test ys) ≡ None) → (k || list_any keep ys) ≡ false → option_and_then (kept keep) (cond b (Some y) (find test ys)) ≡ None
    on true true f later h = absurd cc
    on true false f later h = rw f refl
    on false true f later h = absurd cc
    on false false f later h = later h

first_kept : (keep test : Operation → Bool) (xs ys : List Operation) → list_all keep xs ≡ true → list_any keep ys ≡ false → option_and_then (kept keep) (find test (xs ++ ys)) ≡ find test xs
unfolding kept
first_kept keep test [] ys all none = none_kept keep test ys none
first_kept keep test (x ∷ xs) ys all none = on (test x) parts.0 (first_kept keep test xs ys parts.1 none)
  where
    parts : (keep x ≡ true) × (list_all keep xs ≡ true)
    parts = and_parts (keep x) (list_all keep xs) all

    on : (b : Bool) → keep x ≡ true → option_and_then (kept keep) (find test (xs ++ ys)) ≡ find test xs → option_and_then (kept keep) (cond b (Some x) (find test (xs ++ ys))) ≡ cond b (Some x) (find test xs)
    on true f later = rw f refl
    on false f later = later

named : List ℕ → Operation → Bool
named text operation = pointwise nat_eq (operation_name operation) text

eleven : (format : Format) → list_all (is_nameable (Rule format)) (take 11 ALL) ≡ true → list_any (is_nameable (Rule format)) (drop 11 ALL) ≡ false → HasEleven format
unfolding kept named
eleven format all none text = first_kept (is_nameable (Rule format)) (named text) (take 11 ALL) (drop 11 ALL) all none

pub has_eleven : (format : Format) → IsBefore format → HasEleven format
has_eleven One e = eleven One refl refl
has_eleven Two e = eleven Two refl refl
has_eleven Three e = absurd cc
