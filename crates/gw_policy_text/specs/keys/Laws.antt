-- What holds of the tables: formats 1 and 2 have what they had before there was a third, and ranges are counted as they
-- are put in.
use Rattle.std.specs.Prelude.{◌≡◌, ◌≤◌, ℕ, Bool, nat_eq, List, length, take, codes, find, None, Ok, IsFalse}
use Rattle.std.specs.Cmp.Lexicographic.{pointwise}
use Rattle.toml.specs.Data.{Data, Members, no_members}
use Rattle.gw_rules.specs.declared.format.Format.{Format}
use Rattle.gw_rules.specs.declared.operation.TheConstants.Operation.{ALL}
use Rattle.gw_rules.specs.declared.range.Range.{Range}
use Rattle.gw_rules.specs.Format.{names_stations}
use Rattle.gw_rules.specs.Operation.{operation_name}
use Rattle.gw_configuration.specs.declared.located.Place.{Place}
use Rattle.gw_configuration.specs.declared.shape.Naming.TheVariants.{Rule}
use Rattle.gw_configuration.specs.declared.shape.Scalar.{Scalar}
use Rattle.gw_policy_text.specs.keys.Field.{is_key, located_beside, located_in, items_fault}
use Rattle.gw_policy_text.specs.keys.Items.{count_in, length_of, ranges_in, stations_in}
use Rattle.gw_policy_text.specs.keys.Tables.{port_fields, rule_fields, top_fields}
use Rattle.gw_policy_text.specs.keys.Value.{operation_of}

-- the format names no stations: it is 1 or 2
abbrev pub IsBefore : Format → Type 0
IsBefore format = IsFalse (names_stations format)

-- then the keys of format 3 are unknown
pub record KnowsNoOther (format : Format) : Type 0 where
  pub set : IsFalse (is_key (top_fields format) (codes "set"))
  pub announce : IsFalse (is_key (top_fields format) (codes "announce"))
  pub assertion : IsFalse (is_key (top_fields format) (codes "assert"))
  pub bbmd : IsFalse (is_key (port_fields format) (codes "bbmd"))
  pub stations : IsFalse (is_key (port_fields format) (codes "stations"))
  pub sender : IsFalse (is_key (rule_fields format no_members) (codes "sender"))
  pub station : IsFalse (is_key (rule_fields format no_members) (codes "station"))
  pub note : IsFalse (is_key (rule_fields format no_members) (codes "note"))
  pub audit : IsFalse (is_key (rule_fields format no_members) (codes "audit"))
  pub both_ways : IsFalse (is_key (rule_fields format no_members) (codes "both_ways"))
  pub enabled : IsFalse (is_key (rule_fields format no_members) (codes "enabled"))
  pub quiet : IsFalse (is_key (rule_fields format no_members) (codes "quiet"))

-- a text is one of the first eleven operations, or none
abbrev pub HasEleven : Format → Type 0
HasEleven format = (text : List ℕ) →
    operation_of (Rule format) text ≡ find (λ operation. pointwise nat_eq (operation_name operation) text) (take 11 ALL)

-- and a rule has the same fault whatever sets there are
abbrev pub NamesNoSets : Format → Type 0
NamesNoSets format = (sets : List Data) (place : Place) (table : Members) →
    located_beside sets place (rule_fields format table) table ≡ located_in place (rule_fields format table) table

-- items are read to as many ranges as are counted of them
abbrev pub AreCounted : Type 0
AreCounted = (sets : List Data) (scalar : Scalar) (items : List Data) (ranges : List Range) →
    ranges_in sets scalar items ≡ Ok ranges → length ranges ≡ count_in sets items

-- so items without a fault are read to 256 at most
abbrev pub AreFew : Type 0
AreFew = (sets : List Data) (scalar : Scalar) (items : List Data) (ranges : List Range) →
    items_fault sets scalar items ≡ None → ranges_in sets scalar items ≡ Ok ranges → length ranges ≤ 256

-- no range of stations holds keys of two lengths
abbrev pub HaveOneLength : Type 0
HaveOneLength = (every : Bool) (value : Data) (range : Range) →
    stations_in every value ≡ Ok range → length_of range.low ≡ length_of range.high
