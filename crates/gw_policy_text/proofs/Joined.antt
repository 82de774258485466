-- The rules that go with one that goes both ways are rules that a configuration can have.
use Rattle.std.proofs.Common.{◌≡◌, ◌≤◌, ◌+◌, ◌&&◌, ◌||◌, ◌==◌, ◌∷◌, ◌++◌, ◌∙◌, [], ℕ, suc, Bool, List, true, false, not, length, refl, ap, arith, sym, nat_eq, nat_le, Option, Some, None, codes, get_or, cond, length-append}
use Rattle.std.specs.Prelude.{if◌then◌else◌}
use Rattle.std.proofs.lemmas.Bool.{and_from, and_parts, le-leb, leb-true}
use Rattle.std.proofs.lemmas.List.Folds.{list_all-append}
use Rattle.std.specs.List.{list_all}
use Rattle.std.specs.Cmp.Lexicographic.{bytes_decides, pointwise}
use Rattle.gw_rules.proofs.EachField.{each_field_at, each_field_from}
use Rattle.gw_rules.specs.BothWays.{answers, askers, back_of, back_ranges, judged, judges, only, requests, routing, way_of, way_ranges, way_services}
use Rattle.gw_rules.specs.Bounds.{are_bounded, bounds, is_within}
use Rattle.gw_rules.specs.Fields.{value_of}
use Rattle.gw_rules.specs.Name.{is_name, is_name_character, is_no_rule}
use Rattle.gw_rules.specs.declared.field.FieldName.{FieldName}
use Rattle.gw_rules.specs.declared.field.FieldName.TheVariants as fields
use Rattle.gw_rules.specs.declared.format.Format.TheVariants.{Three}
use Rattle.gw_rules.specs.declared.operation.Operation.TheVariants.{Read, Write}
use Rattle.gw_rules.specs.declared.range.Range.{Range}
use Rattle.gw_rules.specs.declared.rule.Rule.{Rule}
use Rattle.gw_configuration.specs.Configuration.{is_configurable}

-- names

-- a short name with an ending is a name
pub joined_name : (name end : List ℕ) → is_name name ≡ true → length name ≤ 27 → length end ≤ 5 → list_all is_name_character end ≡ true → is_name (name ++ end) ≡ true
joined_name name end is short brief letters =
    let all = length-append name end in
    let one = and_parts (nat_le 1 (length name)) (nat_le (length name) 32 && list_all is_name_character name) is in
    let two = and_parts (nat_le (length name) 32) (list_all is_name_character name) one.1 in
    let some : 1 ≤ length name = leb-true 1 (length name) one.0 in
    and_from (nat_le 1 (length (name ++ end))) (nat_le (length (name ++ end)) 32 && list_all is_name_character (name ++ end))
    (le-leb 1 (length (name ++ end)) (omega (arith, all, some)))
    (and_from (nat_le (length (name ++ end)) 32) (list_all is_name_character (name ++ end))
    (le-leb (length (name ++ end)) 32 (omega (arith, all, short, brief)))
    (list_all-append is_name_character name end ∙ rw (two.1, letters) refl))

-- a name that ends so is another one than that of no rule
not_default : (name : List ℕ) → is_no_rule name ≡ true → name ≡ codes "default"
not_default name e = (bytes_decides name (codes "default")).0 e

decided : (b : Bool) → (b ≡ true → ⊥) → b ≡ false
decided true never = absurd (never refl)
decided false never = refl

way_other : (name : List ℕ) → name ++ codes "-way" ≡ codes "default" → ⊥
way_other [] e = let long : 4 ≡ 7 = ap length e in absurd (omega (arith, long))
way_other (a ∷ []) e = let long : 5 ≡ 7 = ap length e in absurd (omega (arith, long))
way_other (a ∷ b ∷ []) e = let long : 6 ≡ 7 = ap length e in absurd (omega (arith, long))
way_other (a ∷ b ∷ c ∷ []) e = let there : 45 ≡ 97 = ap (λ (t : List ℕ). get_or t 3 0) e in absurd (omega (arith, there))
way_other (a ∷ b ∷ c ∷ d ∷ name) e = let long : suc (suc (suc (suc (length (name ++ codes "-way"))))) ≡ 7 = ap length e in absurd (omega (arith, long, length-append name (codes "-way")))

back_other : (name : List ℕ) → name ++ codes "-back" ≡ codes "default" → ⊥
back_other [] e = let long : 5 ≡ 7 = ap length e in absurd (omega (arith, long))
back_other (a ∷ []) e = let long : 6 ≡ 7 = ap length e in absurd (omega (arith, long))
back_other (a ∷ b ∷ []) e = let there : 45 ≡ 102 = ap (λ (t : List ℕ). get_or t 2 0) e in absurd (omega (arith, there))
back_other (a ∷ b ∷ c ∷ name) e = let long : suc (suc (suc (length (name ++ codes "-back")))) ≡ 7 = ap length e in absurd (omega (arith, long, length-append name (codes "-back")))

way_named : (name : List ℕ) → not (is_no_rule (name ++ codes "-way")) ≡ true
way_named name = ap not (decided (is_no_rule (name ++ codes "-way")) (λ e. way_other name (not_default (name ++ codes "-way") e)))

back_named : (name : List ℕ) → not (is_no_rule (name ++ codes "-back")) ≡ true
back_named name = ap not (decided (is_no_rule (name ++ codes "-back")) (λ e. back_other name (not_default (name ++ codes "-back") e)))

-- ranges

-- what is within narrower bounds is within the wider ones
pub wider : (inner outer : Range) → outer.low ≤ inner.low → inner.high ≤ outer.high → (ranges : List Range) → list_all (is_within inner) ranges ≡ true → list_all (is_within outer) ranges ≡ true
wider inner outer low high [] all = refl
wider inner outer low high (range ∷ ranges) all =
    let parts = and_parts (is_within inner range) (list_all (is_within inner) ranges) all in
    let ends = and_parts (nat_le inner.low range.low) (nat_le range.high inner.high) parts.0 in
    let first : inner.low ≤ range.low = leb-true inner.low range.low ends.0 in
    let last : range.high ≤ inner.high = leb-true range.high inner.high ends.1 in
    and_from (is_within outer range) (list_all (is_within outer) ranges)
    (and_from (nat_le outer.low range.low) (nat_le range.high outer.high) (le-leb outer.low range.low (omega (arith, low, first))) (le-leb range.high outer.high (omega (arith, high, last))))
    (wider inner outer low high ranges parts.1)

judged_within : (b : Bool) (n : ℕ) → nat_le n 1031 ≡ true → list_all (is_within (bounds Three fields.Service)) (if b then only n ∷ [] else []) ≡ true
judged_within true n small = let some : nat_le 0 n ≡ true = le-leb 0 n (omega arith) in rw (some, small) refl
judged_within false n small = refl

services_within : (rule : Rule) → list_all (is_within (bounds Three fields.Service)) (way_services rule) ≡ true
services_within rule =
    let within = is_within (bounds Three fields.Service) in
    let read = judged Read 12 rule in
    let many = judged Read 14 rule in
    let written = judged Write 15 rule in
    let first = list_all-append within ((read ++ many) ++ written) (only 1028 ∷ []) in
    let second = list_all-append within (requests rule ++ only 1028 ∷ []) (only 1031 ∷ []) in
    let third = list_all-append within (read ++ many) written in
    let fourth = list_all-append within read many in
    second ∙ rw (first, third, fourth, judged_within (judges Read 12 rule) 12 refl, judged_within (judges Read 14 rule) 14 refl, judged_within (judges Write 15 rule) 15 refl) refl

way_bounded : (rule : Rule) → are_bounded Three rule.ranges ≡ true → are_bounded Three (way_ranges (way_services rule) rule) ≡ true
way_bounded rule all = each_field_from (λ field. list_all (is_within (bounds Three field)) (value_of field (way_ranges (way_services rule) rule))) each
  where
    at : (field : FieldName) → list_all (is_within (bounds Three field)) (value_of field rule.ranges) ≡ true
    at field = each_field_at (λ f. list_all (is_within (bounds Three f)) (value_of f rule.ranges)) all field

    each : (field : FieldName) → list_all (is_within (bounds Three field)) (value_of field (way_ranges (way_services rule) rule)) ≡ true
    each fields.Operation = refl
    each fields.Port = at fields.Port
    each fields.SourceNetwork = at fields.SourceNetwork
    each fields.SourceKey = at fields.SourceKey
    each fields.DestinationNetwork = at fields.DestinationNetwork
    each fields.Service = services_within rule
    each fields.ObjectType = refl
    each fields.Instance = refl
    each fields.Property = refl
    each fields.Priority = refl
    each fields.Sender = at fields.Sender
    each fields.Station = at fields.Station

back_bounded : (rule : Rule) → are_bounded Three rule.ranges ≡ true → list_all (is_within (record { low = 1; high = 65534 })) rule.ranges.destination_network ≡ true
    → are_bounded Three (back_ranges rule) ≡ true
back_bounded rule all networks = each_field_from (λ field. list_all (is_within (bounds Three field)) (value_of field (back_ranges rule))) each
  where
    at : (field : FieldName) → list_all (is_within (bounds Three field)) (value_of field rule.ranges) ≡ true
    at field = each_field_at (λ f. list_all (is_within (bounds Three f)) (value_of f rule.ranges)) all field

    by_length : (b : Bool) → list_all (is_within (bounds Three fields.Station)) (if b then rule.ranges.sender else rule.ranges.source_key) ≡ true
    by_length true = wider (bounds Three fields.Sender) (bounds Three fields.Station) (omega arith) (omega arith) rule.ranges.sender (at fields.Sender)
    by_length false = at fields.SourceKey

    each : (field : FieldName) → list_all (is_within (bounds Three field)) (value_of field (back_ranges rule)) ≡ true
    each fields.Operation = refl
    each fields.Port = refl
    each fields.SourceNetwork = networks
    each fields.SourceKey = at fields.Station
    each fields.DestinationNetwork = wider (bounds Three fields.SourceNetwork) (bounds Three fields.DestinationNetwork) (omega arith) (omega arith) rule.ranges.source_network (at fields.SourceNetwork)
    each fields.Service = refl
    each fields.ObjectType = refl
    each fields.Instance = refl
    each fields.Property = refl
    each fields.Priority = refl
    each fields.Sender = refl
    each fields.Station = by_length (length rule.ranges.source_key == 0)

-- so they can be configured

pub back_configurable : (rule : Rule) → is_configurable Three rule ≡ true → list_all (is_within (record { low = 1; high = 65534 })) rule.ranges.destination_network ≡ true
    → is_configurable Three (back_of rule) ≡ true
back_configurable rule can networks =
    let parts = and_parts (not (is_no_rule rule.name)) (are_bounded Three rule.ranges) can in
    and_from (not (is_no_rule (rule.name ++ codes "-back"))) (are_bounded Three (back_ranges rule)) (back_named rule.name) (back_bounded rule parts.1 networks)

pub way_configurable : (rule way : Rule) → is_configurable Three rule ≡ true → way_of rule ≡ Some way → is_configurable Three way ≡ true
way_configurable rule way can is = by (length (requests rule) == 0) is
  where
    made : Rule
    made = record { name = rule.name ++ codes "-way"; allow = true; quiet = false; ranges = way_ranges (way_services rule) rule }

    parts : (not (is_no_rule rule.name) ≡ true) × (are_bounded Three rule.ranges ≡ true)
    parts = and_parts (not (is_no_rule rule.name)) (are_bounded Three rule.ranges) can

    so : is_configurable Three made ≡ true
    so = and_from (not (is_no_rule (rule.name ++ codes "-way"))) (are_bounded Three (way_ranges (way_services rule) rule)) (way_named rule.name) (way_bounded rule parts.1)

    by : (b : Bool) → (if b then None else Some made) ≡ Some way → is_configurable Three way ≡ true
    by true e = absurd cc
    by false e = let same : made ≡ way = cc in ap (is_configurable Three) (sym same) ∙ so
