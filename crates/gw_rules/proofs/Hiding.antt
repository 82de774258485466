-- What `hides` computes is what it says in words, and then no such ask is allowed.
use Rattle.std.proofs.Common.{◌≡◌, ℕ, zero, suc, ◌+◌, ◌-◌, ◌≤◌, ◌<◌, Bool, true, false, List, [], ◌∷◌, ◌↔◌, Option, Some, None, ◌||◌, not, arith, refl, sym, ◌∙◌, ap, if◌then◌else◌}
use Rattle.std.specs.List.{find, list_any, slice_get}
use Rattle.std.specs.Option.{option_map_or}
use Rattle.std.proofs.lemmas.Bool.{and_parts, and_from, false≢true}
use Rattle.gw_rules.specs.Ask.{Ask}
use Rattle.gw_rules.specs.declared.field.FieldName.{FieldName}
use Rattle.gw_rules.specs.declared.field.FieldName.TheVariants.{Operation, Port, SourceNetwork, SourceKey, DestinationNetwork, Service, ObjectType, Instance, Property, Priority, Sender, Station}
use Rattle.gw_rules.specs.declared.range.Range.{Range}
use Rattle.gw_rules.specs.declared.rule.Rule.{Rule}
use Rattle.gw_rules.specs.Fields.{value_of}
use Rattle.gw_rules.specs.Hides.{Hides, IsHidden, Reads, hides, hides_from, hides_from_network, is_unnamed, may_match, may_match_some, must_match, must_match_all, names_no_other, reading, settles}
use Rattle.gw_rules.specs.Range.{admits, holds}
use Rattle.gw_rules.specs.Rule.{matches, ranges_of}
use Rattle.gw_rules.specs.RuleList.{allows}
use Rattle.gw_rules.proofs.EachField.{each_field_at, each_field_from}
use Rattle.gw_rules.proofs.First.{allows_iff}
use Rattle.gw_rules.proofs.Matching.{matches_iff}

-- ---- in words

-- the same by places: an allow rule that may match at a place, and a deny rule before it that must
record Before (must : Rule → Bool) (rules : List Rule) (place : ℕ) : Type 0 where
  lower : ℕ
  rule : Rule
  before : lower < place
  there : slice_get rules lower ≡ Some rule
  denies : rule.allow ≡ false
  sure : must rule ≡ true

abbrev Covered : (Rule → Bool) → (Rule → Bool) → List Rule → Type 0
Covered may must rules = (place : ℕ) (rule : Rule) → slice_get rules place ≡ Some rule → rule.allow ≡ true →
    may rule ≡ true → Before must rules place

some_is : {A : Type 0} (x y : A) → Some x ≡ Some y → x ≡ y
some_is x y e = cc

later : (must : Rule → Bool) (first : Rule) (rules : List Rule) (place : ℕ) → Before must rules place
    → Before must (first ∷ rules) (suc place)
later must first rules place b = record {
  lower = suc b.lower;
  rule = b.rule;
  before = let lt : b.lower < place = b.before in omega arith;
  there = b.there;
  denies = b.denies;
  sure = b.sure;
}

not_both : (b : Bool) → not b ≡ true → b ≡ true → ⊥
not_both true n t = false≢true n
not_both false n t = false≢true t

denied : (b : Bool) → not b ≡ true → b ≡ false
denied true n = absurd (false≢true n)
denied false n = refl

-- what a rule that settles it says
settles_allow : (may must : Rule → Bool) (rule : Rule) → rule.allow ≡ true → settles may must rule ≡ may rule
settles_allow may must rule e = ap (λ (b : Bool). if b then may rule else must rule) e

settles_deny : (may must : Rule → Bool) (rule : Rule) → rule.allow ≡ false → settles may must rule ≡ must rule
settles_deny may must rule e = ap (λ (b : Bool). if b then may rule else must rule) e

covered_by : (b : Bool) (may must : Rule → Bool) (first : Rule) (rules : List Rule) → settles may must first ≡ b
    → option_map_or (λ (rule : Rule). not rule.allow) (if b then Some first else find (settles may must) rules) true ≡ true
    → (hides may must rules ≡ true → Covered may must rules) → Covered may must (first ∷ rules)
unfolding hides
covered_by true may must first rules s h more zero rule there allow is =
    let same : first ≡ rule = some_is first rule there in
    absurd (not_both first.allow h (ap (λ (r : Rule). r.allow) same ∙ allow))
covered_by true may must first rules s h more (suc place) rule there allow is =
    let denies : first.allow ≡ false = denied first.allow h in record {
      lower = zero;
      rule = first;
      before = omega arith;
      there = refl;
      denies = denies;
      sure = sym (settles_deny may must first denies) ∙ s;
    }
covered_by false may must first rules s h more zero rule there allow is =
    let same : first ≡ rule = some_is first rule there in
    absurd (false≢true (sym s ∙ ap (settles may must) same ∙ settles_allow may must rule allow ∙ is))
covered_by false may must first rules s h more (suc place) rule there allow is =
    later must first rules place (more h place rule there allow is)

covered : (may must : Rule → Bool) (rules : List Rule) → hides may must rules ≡ true → Covered may must rules
unfolding hides
covered may must [] h = λ place rule there allow is. absurd (cc)
covered may must (first ∷ rules) h = covered_by (settles may must first) may must first rules refl h (covered may must rules)

-- and back
before_rest : (may must : Rule → Bool) (first : Rule) (rules : List Rule) (place : ℕ) → settles may must first ≡ false
    → Before must (first ∷ rules) (suc place) → Before must rules place
before_rest may must first rules place s b = at b.lower b.before b.there
  where
    at : (lower : ℕ) → lower < suc place → slice_get (first ∷ rules) lower ≡ Some b.rule → Before must rules place
    at zero lt there =
        let same : first ≡ b.rule = some_is first b.rule there in
        absurd (false≢true (sym s ∙ ap (settles may must) same ∙ settles_deny may must b.rule b.denies ∙ b.sure))
    at (suc lower) lt there = record {
      lower = lower;
      rule = b.rule;
      before = omega arith;
      there = there;
      denies = b.denies;
      sure = b.sure;
    }

hides_by : (b : Bool) (may must : Rule → Bool) (first : Rule) (rules : List Rule) → settles may must first ≡ b
    → Covered may must (first ∷ rules) → (Covered may must rules → hides may must rules ≡ true)
    → option_map_or (λ (rule : Rule). not rule.allow) (if b then Some first else find (settles may must) rules) true ≡ true
unfolding hides
hides_by true may must first rules s c more = by first.allow refl
  where
    none_before : Before must (first ∷ rules) zero → ⊥
    none_before b = let lt : b.lower < 0 = b.before in omega arith

    by : (allow : Bool) → first.allow ≡ allow → not allow ≡ true
    by true e = absurd (none_before (c zero first refl e (sym (settles_allow may must first e) ∙ s)))
    by false e = refl
hides_by false may must first rules s c more =
    more (λ place rule there allow is. before_rest may must first rules place s (c (suc place) rule there allow is))

hides_from_words : (may must : Rule → Bool) (rules : List Rule) → Covered may must rules → hides may must rules ≡ true
unfolding hides
hides_from_words may must [] c = refl
hides_from_words may must (first ∷ rules) c =
    hides_by (settles may must first) may must first rules refl c (hides_from_words may must rules)

words_of : (may must : Rule → Bool) (rules : List Rule) → Covered may must rules → Hides may must rules
words_of may must rules c number rule has allow is =
    let b = c (number - 1) rule has.there allow is in
    let lt : b.lower < number - 1 = b.before in
    let back : b.lower + 1 - 1 ≡ b.lower = omega arith in
    record {
      lower = b.lower + 1;
      rule = b.rule;
      before = omega arith;
      numbered = record { counted = omega arith; there = ap (slice_get rules) back ∙ b.there };
      denies = b.denies;
      certain = b.sure;
    }

covered_of : (may must : Rule → Bool) (rules : List Rule) → Hides may must rules → Covered may must rules
covered_of may must rules h place rule there allow is =
    let back : place + 1 - 1 ≡ place = omega arith in
    let d = h (place + 1) rule (record { counted = omega arith; there = ap (slice_get rules) back ∙ there }) allow is in
    let least : 1 ≤ d.lower = d.numbered.counted in
    let lt : d.lower < place + 1 = d.before in
    record {
      lower = d.lower - 1;
      rule = d.rule;
      before = omega arith;
      there = d.numbered.there;
      denies = d.denies;
      sure = d.certain;
    }

-- `hides` is true exactly if each allow rule that may match comes after a deny rule that must match
pub hides_iff : (may must : Rule → Bool) (rules : List Rule) → (hides may must rules ≡ true) ↔ Hides may must rules
hides_iff may must rules =
    (λ t. words_of may must rules (covered may must rules t), λ h. hides_from_words may must rules (covered_of may must rules h))

-- ---- no ask is allowed

-- a rule that matches an ask to read may match some, and that one
some_where : (rule : Rule) (net : ℕ) (key any : Option ℕ) (kind instance : ℕ) (ask : Ask) → Reads net key kind instance ask
    → matches rule ask ≡ true → may_match_some (reading net any kind instance) rule ≡ true
unfolding matches
some_where rule net key any kind instance ask reads t =
    let at : (field : FieldName) → admits (ranges_of field rule) (value_of field ask) ≡ true =
    each_field_at (λ field. admits (ranges_of field rule) (value_of field ask)) t in
    and_from _ _ (and_from _ _ (and_from _ _
    (ap (admits rule.ranges.operation) (sym reads.operation) ∙ at Operation)
    (ap (admits rule.ranges.source_network) (sym reads.source_network) ∙ at SourceNetwork))
    (ap (admits rule.ranges.object_type) (sym reads.object_type) ∙ at ObjectType))
    (ap (admits rule.ranges.instance) (sym reads.instance) ∙ at Instance)

may_where : (rule : Rule) (net : ℕ) (key : Option ℕ) (kind instance : ℕ) (ask : Ask) → Reads net key kind instance ask
    → matches rule ask ≡ true → may_match (reading net key kind instance) rule ≡ true
unfolding matches
may_where rule net key kind instance ask reads t =
    and_from _ _ (some_where rule net key key kind instance ask reads t)
    (ap (admits rule.ranges.source_key) (sym reads.source_key)
    ∙ each_field_at (λ field. admits (ranges_of field rule) (value_of field ask)) t SourceKey)

-- a field without a range admits all
unnamed_admits : (ranges : List Range) (value : Option ℕ) → is_unnamed ranges ≡ true → admits ranges value ≡ true
unnamed_admits ranges value e = ap (λ b. b || option_map_or (λ number. list_any (holds number) ranges) value false) e

-- a rule that may match some, admits the source key and names no other field matches each ask to read
matches_where : (rule : Rule) (net : ℕ) (key any : Option ℕ) (kind instance : ℕ) (ask : Ask) → Reads net key kind instance ask
    → may_match_some (reading net any kind instance) rule ≡ true → admits rule.ranges.source_key ask.source_key ≡ true
    → names_no_other rule ≡ true → matches rule ask ≡ true
unfolding matches
matches_where rule net key any kind instance ask reads some admitted none =
    let m2 = and_parts _ _ some in
    let m1 = and_parts _ _ m2.0 in
    let m0 = and_parts _ _ m1.0 in
    let n5 = and_parts _ _ none in
    let n4 = and_parts _ _ n5.0 in
    let n3 = and_parts _ _ n4.0 in
    let n2 = and_parts _ _ n3.0 in
    let n1 = and_parts _ _ n2.0 in
    let n0 = and_parts _ _ n1.0 in
    each_field_from (λ field. admits (ranges_of field rule) (value_of field ask)) (λ field.
    elim field as (λ f. admits (ranges_of f rule) (value_of f ask) ≡ true) [
      | Operation ↦ ap (admits rule.ranges.operation) reads.operation ∙ m0.0
      | Port ↦ unnamed_admits rule.ranges.port ask.port n0.0
      | SourceNetwork ↦ ap (admits rule.ranges.source_network) reads.source_network ∙ m0.1
      | SourceKey ↦ admitted
      | DestinationNetwork ↦ unnamed_admits rule.ranges.destination_network ask.destination_network n0.1
      | Service ↦ unnamed_admits rule.ranges.service ask.service n1.1
      | ObjectType ↦ ap (admits rule.ranges.object_type) reads.object_type ∙ m1.1
      | Instance ↦ ap (admits rule.ranges.instance) reads.instance ∙ m2.1
      | Property ↦ unnamed_admits rule.ranges.property ask.property n2.1
      | Priority ↦ unnamed_admits rule.ranges.priority ask.priority n3.1
      | Sender ↦ unnamed_admits rule.ranges.sender ask.sender n4.1
      | Station ↦ unnamed_admits rule.ranges.station ask.station n5.1
    ])

-- a rule that must match matches each ask of the source to read
must_where : (rule : Rule) (net : ℕ) (key : Option ℕ) (kind instance : ℕ) (ask : Ask) → Reads net key kind instance ask
    → must_match (reading net key kind instance) rule ≡ true → matches rule ask ≡ true
must_where rule net key kind instance ask reads t =
    let whole = and_parts _ (names_no_other rule) t in
    let may = and_parts (may_match_some (reading net key kind instance) rule) _ whole.0 in
    matches_where rule net key key kind instance ask reads may.0
    (ap (admits rule.ranges.source_key) reads.source_key ∙ may.1) whole.1

-- and one that must match all each ask of every source
all_where : (rule : Rule) (net : ℕ) (key any : Option ℕ) (kind instance : ℕ) (ask : Ask) → Reads net key kind instance ask
    → must_match_all (reading net any kind instance) rule ≡ true → matches rule ask ≡ true
all_where rule net key any kind instance ask reads t =
    let whole = and_parts _ (names_no_other rule) t in
    let may = and_parts (may_match_some (reading net any kind instance) rule) _ whole.0 in
    matches_where rule net key any kind instance ask reads may.0
    (unnamed_admits rule.ranges.source_key ask.source_key may.1) whole.1

-- an ask that the rules which match it may, and those that must match it do, isn't allowed if it is hidden
never : (may must : Rule → Bool) (rules : List Rule) (ask : Ask) → ((rule : Rule) → matches rule ask ≡ true → may rule ≡ true)
    → ((rule : Rule) → must rule ≡ true → matches rule ask ≡ true) → Hides may must rules → allows rules ask ≡ true → ⊥
never may must rules ask so sure h t =
    let a = (allows_iff rules ask).0 t in
    let is = a.1 in
    let d = h a.0 is.rule is.numbered a.2 (so is.rule ((matches_iff is.rule ask).1 is.matching)) in
    is.least d.lower d.rule d.before d.numbered ((matches_iff d.rule ask).0 (sure d.rule d.certain))

not_true : (b : Bool) → (b ≡ true → ⊥) → b ≡ false
not_true true no_way = absurd (no_way refl)
not_true false no_way = refl

-- if it is hidden so, no ask to read is allowed
pub hidden : (rules : List Rule) (net : ℕ) (key : Option ℕ) (kind instance : ℕ) → hides_from rules net key kind instance ≡ true
    → IsHidden rules net key kind instance
hidden rules net key kind instance t ask reads =
    let read = reading net key kind instance in
    not_true (allows rules ask) (never (may_match read) (must_match read) rules ask
    (λ rule. may_where rule net key kind instance ask reads) (λ rule. must_where rule net key kind instance ask reads)
    ((hides_iff (may_match read) (must_match read) rules).0 t))

pub hidden_from_network : (rules : List Rule) (net kind instance : ℕ) → hides_from_network rules net kind instance ≡ true
    → (key : Option ℕ) → IsHidden rules net key kind instance
hidden_from_network rules net kind instance t key ask reads =
    let read = reading net None kind instance in
    not_true (allows rules ask) (never (may_match_some read) (must_match_all read) rules ask
    (λ rule. some_where rule net key None kind instance ask reads) (λ rule. all_where rule net key None kind instance ask reads)
    ((hides_iff (may_match_some read) (must_match_all read) rules).0 t))
