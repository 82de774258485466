-- What the keys of stations of other lengths than six change: nothing of a policy whose keys all end below 2 to the power of
-- 48.
use Rattle.std.specs.Prelude.{◌≡◌, ◌^◌, ℕ, Bool, true, false, nat_lt, if◌then◌else◌, List, Option, Some, None, length}
use Rattle.std.specs.List.{AllByRecursion, list_all}
use Rattle.gw_addr.specs.Reading.{AreOctets}
use Rattle.gw_addr.specs.Station.{has_key}
use Rattle.gw_rules.specs.Ask.{Ask}
use Rattle.gw_rules.specs.Format.{key_in}
use Rattle.gw_rules.specs.Hides.{hides_from}
use Rattle.gw_rules.specs.Rule.{ranges_of}
use Rattle.gw_rules.specs.RuleList.{allows, first}
use Rattle.gw_rules.specs.declared.field.FieldName.TheVariants.{SourceKey, Station}
use Rattle.gw_rules.specs.declared.format.Format.TheVariants.{Two, Three}
use Rattle.gw_rules.specs.declared.range.Range.{Range}
use Rattle.gw_rules.specs.declared.rule.Rule.{Rule}

-- A station of six octets has the key under the third format that it has under the first two, and so has one that has none
-- under the third.
abbrev pub SixOctetsKeepTheirKey : Type 0
SixOctetsKeepTheirKey = (octets : List ℕ) → length octets ≡ 6 → key_in Three octets ≡ key_in Two octets

abbrev pub NoKeyStaysNone : Type 0
NoKeyStaysNone = (octets : List ℕ) → has_key octets ≡ false → key_in Three octets ≡ key_in Two octets

-- a key, if it is one that a station of six octets can have
abbrev pub short_key : Option ℕ → Option ℕ
short_key None = None
short_key (Some key) = if nat_lt key (2 ^ 48) then Some key else None

-- So the key of a station under the first two formats is that under the third, if a station of six octets can have it.
abbrev pub ShortKeysAreThoseOfTwo : Type 0
ShortKeysAreThoseOfTwo = (octets : List ℕ) → AreOctets octets → short_key (key_in Three octets) ≡ key_in Two octets

-- an ask with such keys alone: what it says under the third format, with the keys of the first two
abbrev pub short_keyed : Ask → Ask
short_keyed ask = record ask { source_key = short_key ask.source_key; station = short_key ask.station }

-- each range ends below 2 to the power of 48
abbrev pub are_short : List Range → Bool
are_short ranges = list_all (λ range. nat_lt range.high (2 ^ 48)) ranges

-- no rule names a key of a station of another length, as none does that names stations by addresses alone
abbrev pub NameShortKeys : List Rule → Type 0
NameShortKeys rules =
    AllByRecursion (λ rule. (are_short (ranges_of SourceKey rule) ≡ true) × (are_short (ranges_of Station rule) ≡ true)) rules

-- Such rules decide each ask as they do with the keys of the first two formats, by the same rule;
abbrev pub ShortRulesDecideAsBefore : Type 0
ShortRulesDecideAsBefore = (rules : List Rule) (ask : Ask) → NameShortKeys rules →
    (first rules (short_keyed ask) ≡ first rules ask) × (allows rules (short_keyed ask) ≡ allows rules ask)

-- and hide an object from a source as they do with such a key.
abbrev pub ShortRulesHideAsBefore : Type 0
ShortRulesHideAsBefore = (rules : List Rule) (net : ℕ) (key : Option ℕ) (kind instance : ℕ) → NameShortKeys rules →
    hides_from rules net (short_key key) kind instance ≡ hides_from rules net key kind instance
