-- Rules that name no key of a station of another length than six octets decide as if such stations had none.
use Rattle.std.proofs.Common.{◌≡◌, ◌∙◌, ◌<◌, ◌≤◌, ◌+◌, ◌*◌, ◌^◌, sym, ap, ap₂, refl, subst, ℕ, Bool, true, false, cond, not, ◌&&◌, ◌||◌, ◌==◌, nat_eq, nat_le, nat_lt, List, [], ◌∷◌, length, Option, Some, None, arith}
use Rattle.std.specs.Prelude.{find, if◌then◌else◌}
use Rattle.std.specs.List.{AllByRecursion, list_all, list_any, position_or_len}
use Rattle.std.specs.Option.{option_map, option_map_or}
use Rattle.std.proofs.lemmas.Bool.{and_parts, eqb-true, le-ltb, leb-true, lt-ltb, ltb-false, ltb-true}
use Rattle.gw_addr.specs.Address.{big_endian}
use Rattle.gw_addr.specs.Reading.{AreOctets}
use Rattle.gw_addr.specs.Station.{has_key, key48, key_base, key_of}
use Rattle.gw_addr.proofs.Addresses.{key_below}
use Rattle.gw_rules.specs.Ask.{Ask}
use Rattle.gw_rules.specs.Fields.{value_of}
use Rattle.gw_rules.specs.Hides.{hides, hides_from, may_match, may_match_some, must_match, names_no_other, reading, settles}
use Rattle.gw_rules.specs.Range.{admits, holds}
use Rattle.gw_rules.specs.Rule.{matches, ranges_of}
use Rattle.gw_rules.specs.RuleList.{allows, allows_at, first}
use Rattle.gw_rules.specs.declared.field.FieldName.{FieldName}
use Rattle.gw_rules.specs.declared.field.FieldName.TheVariants.{Operation, Port, SourceNetwork, SourceKey, DestinationNetwork, Service, ObjectType, Instance, Property, Priority, Sender, Station}
use Rattle.gw_rules.specs.declared.field.TheConstants.FieldName.{ALL}
use Rattle.gw_rules.specs.declared.range.Range.{Range}
use Rattle.gw_rules.specs.declared.rule.Rule.{Rule}
use Rattle.gw_core_laws.specs.Keys.{NameShortKeys, NoKeyStaysNone, ShortKeysAreThoseOfTwo, ShortRulesDecideAsBefore, ShortRulesHideAsBefore, SixOctetsKeepTheirKey, are_short, short_key, short_keyed}

-- ---- the key of a station

-- what the key of so many octets of this number is
abbrev key48_of : ℕ → ℕ → Option ℕ
key48_of count number = if count == 6 then Some number else None

abbrev key_of_count : ℕ → ℕ → Option ℕ
key_of_count count number = if nat_le 1 count && nat_le count 7 then Some (key_base count + number) else None

none_added : (n : ℕ) → 0 + n ≡ n
none_added n = omega arith

pub six_octets_keep_their_key : SixOctetsKeepTheirKey
six_octets_keep_their_key octets six =
    ap (λ (count : ℕ). key_of_count count (big_endian octets)) six ∙ ap Some (none_added (big_endian octets))
    ∙ sym (ap (λ (count : ℕ). key48_of count (big_endian octets)) six)

-- what has no key hasn't six octets
keyless : (n : ℕ) (six : Bool) → (n == 6) ≡ six → (nat_le 1 n && nat_le n 7) ≡ false → six ≡ false
keyless n false is none = refl
keyless n true is none =
    let at : n ≡ 6 = eqb-true n 6 is in
    absurd (let yes : (nat_le 1 n && nat_le n 7) ≡ true = ap (λ (k : ℕ). nat_le 1 k && nat_le k 7) at in cc)

pub no_key_stays_none : NoKeyStaysNone
no_key_stays_none octets none =
    ap (λ (b : Bool). if b then Some (key_base (length octets) + big_endian octets) else None) none
    ∙ sym (ap (λ (b : Bool). if b then Some (big_endian octets) else None) (keyless (length octets) (length octets == 6) refl none))

big : (n key : ℕ) → 1 ≤ n → nat_lt (n * 72057594037927936 + key) (2 ^ 48) ≡ false
big n key some = le-ltb (n * 72057594037927936 + key) (2 ^ 48) (omega (arith, some))

pub short_keys_are_those_of_two : ShortKeysAreThoseOfTwo
short_keys_are_those_of_two octets fits = by (has_key octets) (length octets == 6) refl refl
  where
    by : (keyed six : Bool) → has_key octets ≡ keyed → (length octets == 6) ≡ six
        → short_key (if keyed then Some ((if six then 0 else length octets * 72057594037927936) + big_endian octets) else None)
        ≡ (if six then Some (big_endian octets) else None)
    by true true is at =
        let small = key_below octets (eqb-true (length octets) 6 at) fits in
        ap (λ (n : ℕ). short_key (Some n)) (none_added (big_endian octets))
        ∙ ap (λ (b : Bool). if b then Some (big_endian octets) else None) (lt-ltb (big_endian octets) (2 ^ 48) small)
    by true false is at =
        let some = leb-true 1 (length octets) (and_parts (nat_le 1 (length octets)) (nat_le (length octets) 7) is).0 in
        ap (λ (b : Bool). if b then Some (length octets * 72057594037927936 + big_endian octets) else None) (big (length octets) (big_endian octets) some)
    by false true is at = absurd (let no = keyless (length octets) true at is in cc)
    by false false is at = refl

-- ---- one field

-- a range that ends below doesn't hold a key beyond
out_of : (range : Range) (key : ℕ) → nat_lt range.high (2 ^ 48) ≡ true → nat_lt key (2 ^ 48) ≡ false → holds key range ≡ false
out_of range key low high = by (nat_le range.low key) (nat_le key range.high) refl
  where
    by : (a b : Bool) → nat_le key range.high ≡ b → (a && b) ≡ false
    by false b e = refl
    by true false e = refl
    by true true e =
        let small : key ≤ range.high = leb-true key range.high e in
        let end : range.high < 2 ^ 48 = ltb-true range.high (2 ^ 48) low in
        let beyond : 2 ^ 48 ≤ key = ltb-false key (2 ^ 48) high in
        absurd (omega (arith, small, end, beyond))

none_holds : (ranges : List Range) (key : ℕ) → are_short ranges ≡ true → nat_lt key (2 ^ 48) ≡ false → list_any (holds key) ranges ≡ false
none_holds [] key short high = refl
none_holds (range ∷ ranges) key short high =
    let both = and_parts (nat_lt range.high (2 ^ 48)) (are_short ranges) short in
    ap₂ (λ (a b : Bool). a || b) (out_of range key both.0 high) (none_holds ranges key both.1 high)

pub admits_short : (ranges : List Range) (key : Option ℕ) → are_short ranges ≡ true → admits ranges (short_key key) ≡ admits ranges key
admits_short ranges None short = refl
admits_short ranges (Some key) short = by (nat_lt key (2 ^ 48)) refl
  where
    by : (b : Bool) → nat_lt key (2 ^ 48) ≡ b
        → ((length ranges == 0) || option_map_or (λ number. list_any (holds number) ranges) (if b then Some key else None) false)
        ≡ ((length ranges == 0) || list_any (holds key) ranges)
    by true e = refl
    by false e = ap (λ (b : Bool). (length ranges == 0) || b) (sym (none_holds ranges key short e))

-- ---- one rule

-- whether each field is admitted, with these answers for the two
test_with : Rule → Ask → Bool → Bool → FieldName → Bool
test_with rule ask key station Operation = admits (ranges_of Operation rule) (value_of Operation ask)
test_with rule ask key station Port = admits (ranges_of Port rule) (value_of Port ask)
test_with rule ask key station SourceNetwork = admits (ranges_of SourceNetwork rule) (value_of SourceNetwork ask)
test_with rule ask key station SourceKey = key
test_with rule ask key station DestinationNetwork = admits (ranges_of DestinationNetwork rule) (value_of DestinationNetwork ask)
test_with rule ask key station Service = admits (ranges_of Service rule) (value_of Service ask)
test_with rule ask key station ObjectType = admits (ranges_of ObjectType rule) (value_of ObjectType ask)
test_with rule ask key station Instance = admits (ranges_of Instance rule) (value_of Instance ask)
test_with rule ask key station Property = admits (ranges_of Property rule) (value_of Property ask)
test_with rule ask key station Priority = admits (ranges_of Priority rule) (value_of Priority ask)
test_with rule ask key station Sender = admits (ranges_of Sender rule) (value_of Sender ask)
test_with rule ask key station Station = station

matches_short : (rule : Rule) (ask : Ask) → are_short (ranges_of SourceKey rule) ≡ true → are_short (ranges_of Station rule) ≡ true
    → matches rule (short_keyed ask) ≡ matches rule ask
unfolding matches test_with
matches_short rule ask k s =
    ap₂ (λ (key station : Bool). list_all (test_with rule ask key station) ALL)
    (admits_short (ranges_of SourceKey rule) ask.source_key k) (admits_short (ranges_of Station rule) ask.station s)

-- ---- the first rule

place_short : (rules : List Rule) (ask : Ask) → NameShortKeys rules
    → position_or_len (λ rule. matches rule (short_keyed ask)) rules ≡ position_or_len (λ rule. matches rule ask) rules
place_short [] ask short = refl
place_short (rule ∷ rules) ask short =
    ap₂ (λ (b : Bool) (n : ℕ). cond (not b) (1 + n) 0) (matches_short rule ask short.0.0 short.0.1) (place_short rules ask short.1)

first_short : (rules : List Rule) (ask : Ask) → NameShortKeys rules → first rules (short_keyed ask) ≡ first rules ask
unfolding first
first_short rules ask short =
    ap (λ (n : ℕ). option_map (λ place. place + 1) (cond (nat_lt n (length rules)) (Some n) None)) (place_short rules ask short)

allows_short : (rules : List Rule) (ask : Ask) → NameShortKeys rules → allows rules (short_keyed ask) ≡ allows rules ask
unfolding allows
allows_short rules ask short = ap (λ (number : Option ℕ). option_map_or (allows_at rules) number false) (first_short rules ask short)

pub short_rules_decide_as_before : ShortRulesDecideAsBefore
short_rules_decide_as_before rules ask short = (first_short rules ask short, allows_short rules ask short)

-- ---- what is hidden

-- the first of these rules for which a test is the same
same_find : (f g : Rule → Bool) (rules : List Rule) → AllByRecursion (λ rule. f rule ≡ g rule) rules → find f rules ≡ find g rules
same_find f g [] each = refl
same_find f g (rule ∷ rules) each =
    ap₂ (λ (b : Bool) (found : Option Rule). cond b (Some rule) found) each.0 (same_find f g rules each.1)

settles_short : (rules : List Rule) (net : ℕ) (key : Option ℕ) (kind instance : ℕ) → NameShortKeys rules
    → AllByRecursion (λ rule. settles (may_match (reading net (short_key key) kind instance)) (must_match (reading net (short_key key) kind instance)) rule
    ≡ settles (may_match (reading net key kind instance)) (must_match (reading net key kind instance)) rule) rules
settles_short [] net key kind instance short = tt
settles_short (rule ∷ rules) net key kind instance short = (
  ap (λ (b : Bool). if rule.allow then may rule b else must rule b) (admits_short rule.ranges.source_key key short.0.0),
  settles_short rules net key kind instance short.1,
)
  where
    may : Rule → Bool → Bool
    may rule held = may_match_some (reading net None kind instance) rule && held

    must : Rule → Bool → Bool
    must rule held = may rule held && names_no_other rule

pub short_rules_hide_as_before : ShortRulesHideAsBefore
unfolding hides
short_rules_hide_as_before rules net key kind instance short =
    ap (λ (found : Option Rule). option_map_or (λ rule. not rule.allow) found true)
    (same_find (settles (may_match (reading net (short_key key) kind instance)) (must_match (reading net (short_key key) kind instance)))
    (settles (may_match (reading net key kind instance)) (must_match (reading net key kind instance))) rules
    (settles_short rules net key kind instance short))
