-- A rule matches an ask if the ask meets the fields of both groups; a group that the rule doesn't name is met.
use Rattle.std.proofs.Common.{◌≡◌, ℕ, Bool, true, false, ◌&&◌, ◌||◌, not, List, Option, refl, sym, ◌∙◌, ap}
use Rattle.std.specs.Cmp.{both_ways}
use Rattle.std.specs.List.{list_any}
use Rattle.std.specs.Option.{option_map_or}
use Rattle.std.proofs.lemmas.Bool.{and_parts, and_from, false≢true}
use Rattle.gw_rules.specs.Ask.{Ask}
use Rattle.gw_rules.specs.declared.field.FieldName.{FieldName}
use Rattle.gw_rules.specs.declared.field.FieldName.TheVariants.{Operation, Port, SourceNetwork, SourceKey, DestinationNetwork, Service, ObjectType, Instance, Property, Priority, Sender, Station}
use Rattle.gw_rules.specs.declared.range.Range.{Range}
use Rattle.gw_rules.specs.declared.rule.Rule.{Rule}
use Rattle.gw_rules.specs.Fields.{value_of}
use Rattle.gw_rules.specs.Hides.{is_unnamed}
use Rattle.gw_rules.specs.Range.{admits, holds}
use Rattle.gw_rules.specs.Rule.{matches, ranges_of}
use Rattle.gw_rules.specs.internal.Grouped.{meets_object, meets_others, names_another}
use Rattle.gw_rules.proofs.EachField.{each_field_at, each_field_from}

-- two to eight tests that hold together hold each, and back
abbrev all_four : Bool → Bool → Bool → Bool → Bool
all_four a b c d = a && b && c && d

abbrev all_eight : Bool → Bool → Bool → Bool → Bool → Bool → Bool → Bool → Bool
all_eight a b c d e f g h = a && b && c && d && e && f && g && h

record Four (a b c d : Bool) : Type 0 where
  one : a ≡ true
  two : b ≡ true
  three : c ≡ true
  four : d ≡ true

record Eight (a b c d e f g h : Bool) : Type 0 where
  front : Four a b c d
  back : Four e f g h

four_parts : (a b c d : Bool) → all_four a b c d ≡ true → Four a b c d
four_parts a b c d t =
    let p = and_parts (a && b && c) d t in
    let q = and_parts (a && b) c p.0 in
    let r = and_parts a b q.0 in
    record { one = r.0; two = r.1; three = q.1; four = p.1 }

four_from : (a b c d : Bool) → Four a b c d → all_four a b c d ≡ true
four_from a b c d t = and_from (a && b && c) d (and_from (a && b) c (and_from a b t.one t.two) t.three) t.four

eight_parts : (a b c d e f g h : Bool) → all_eight a b c d e f g h ≡ true → Eight a b c d e f g h
eight_parts a b c d e f g h t =
    let p = and_parts (a && b && c && d && e && f && g) h t in
    let q = and_parts (a && b && c && d && e && f) g p.0 in
    let r = and_parts (a && b && c && d && e) f q.0 in
    let s = and_parts (a && b && c && d) e r.0 in
    record { front = four_parts a b c d s.0; back = record { one = s.1; two = r.1; three = q.1; four = p.1 } }

eight_from : (a b c d e f g h : Bool) → Eight a b c d e f g h → all_eight a b c d e f g h ≡ true
eight_from a b c d e f g h t =
    and_from (a && b && c && d && e && f && g) h
    (and_from (a && b && c && d && e && f) g
    (and_from (a && b && c && d && e) f
    (and_from (a && b && c && d) e (four_from a b c d t.front) t.back.one) t.back.two) t.back.three) t.back.four

-- what a rule doesn't name is met
unnamed : (ranges : List Range) (value : Option ℕ) → is_unnamed ranges ≡ true → admits ranges value ≡ true
unnamed ranges value t = ap (λ b. b || option_map_or (λ number. list_any (holds number) ranges) value false) t

four_unnamed : (a b c d : List Range) (v w x y : Option ℕ)
    → Four (is_unnamed a) (is_unnamed b) (is_unnamed c) (is_unnamed d) → Four (admits a v) (admits b w) (admits c x) (admits d y)
four_unnamed a b c d v w x y t = record {
  one = unnamed a v t.one;
  two = unnamed b w t.two;
  three = unnamed c x t.three;
  four = unnamed d y t.four;
}

-- the eight others are met
abbrev OthersAreMet : Rule → Ask → Type 0
OthersAreMet rule ask =
    Eight (admits rule.ranges.port ask.port) (admits rule.ranges.source_network ask.source_network)
    (admits rule.ranges.source_key ask.source_key) (admits rule.ranges.destination_network ask.destination_network)
    (admits rule.ranges.service ask.service) (admits rule.ranges.priority ask.priority)
    (admits rule.ranges.sender ask.sender) (admits rule.ranges.station ask.station)

abbrev NoneIsNamed : Rule → Type 0
NoneIsNamed rule =
    Eight (is_unnamed rule.ranges.port) (is_unnamed rule.ranges.source_network) (is_unnamed rule.ranges.source_key)
    (is_unnamed rule.ranges.destination_network) (is_unnamed rule.ranges.service) (is_unnamed rule.ranges.priority)
    (is_unnamed rule.ranges.sender) (is_unnamed rule.ranges.station)

met_unnamed : (rule : Rule) (ask : Ask) → NoneIsNamed rule → OthersAreMet rule ask
met_unnamed rule ask t =
    let r = rule.ranges in
    record {
      front = four_unnamed r.port r.source_network r.source_key r.destination_network ask.port ask.source_network ask.source_key ask.destination_network t.front;
      back = four_unnamed r.service r.priority r.sender r.station ask.service ask.priority ask.sender ask.station t.back;
    }

turned : (b : Bool) → not b ≡ false → b ≡ true
turned true e = refl
turned false e = absurd (false≢true (sym e))

met : (rule : Rule) (ask : Ask) → names_another rule ≡ false → meets_others ask rule ≡ true
met rule ask e = eight_from _ _ _ _ _ _ _ _ (met_unnamed rule ask (eight_parts _ _ _ _ _ _ _ _ (turned _ e)))

-- a rule matches an ask that meets both groups, and no other
pub both_groups : (rule : Rule) (ask : Ask) → matches rule ask ≡ (meets_object ask rule && meets_others ask rule)
unfolding matches
both_groups rule ask =
    let test : FieldName → Bool = λ field. admits (ranges_of field rule) (value_of field ask) in
    both_ways (matches rule ask) (meets_object ask rule && meets_others ask rule)
    (λ t.
    let at : (field : FieldName) → test field ≡ true = each_field_at test t in
    and_from (meets_object ask rule) (meets_others ask rule)
    (four_from _ _ _ _ (record { one = at ObjectType; two = at Instance; three = at Property; four = at Operation }))
    (eight_from _ _ _ _ _ _ _ _ (record {
      front = record { one = at Port; two = at SourceNetwork; three = at SourceKey; four = at DestinationNetwork };
      back = record { one = at Service; two = at Priority; three = at Sender; four = at Station };
    })))
    (λ t.
    let both = and_parts (meets_object ask rule) (meets_others ask rule) t in
    let object = four_parts _ _ _ _ both.0 in
    let others = eight_parts _ _ _ _ _ _ _ _ both.1 in
    each_field_from test (λ field. elim field as (λ f. test f ≡ true) [
      | Operation ↦ object.four
      | Port ↦ others.front.one
      | SourceNetwork ↦ others.front.two
      | SourceKey ↦ others.front.three
      | DestinationNetwork ↦ others.front.four
      | Service ↦ others.back.one
      | ObjectType ↦ object.one
      | Instance ↦ object.two
      | Property ↦ object.three
      | Priority ↦ others.back.two
      | Sender ↦ others.back.three
      | Station ↦ others.back.four
    ]))

-- it doesn't match where an object's field isn't met
pub unmet_object : (rule : Rule) (ask : Ask) → meets_object ask rule ≡ false → matches rule ask ≡ false
unmet_object rule ask e = both_groups rule ask ∙ ap (λ b. b && meets_others ask rule) e

-- where they are met, it matches if the others are, which a rule that names none of them need not look at
pub met_object : (rule : Rule) (ask : Ask) → meets_object ask rule ≡ true → matches rule ask ≡ meets_others ask rule
met_object rule ask e = both_groups rule ask ∙ ap (λ b. b && meets_others ask rule) e

pub met_alone : (rule : Rule) (ask : Ask) → meets_object ask rule ≡ true → names_another rule ≡ false → matches rule ask ≡ true
met_alone rule ask e n = met_object rule ask e ∙ met rule ask n
