-- How the rules and the sets of a policy are read from the tables of its text.
use Rattle.std.specs.Prelude.{ℕ, ◌+◌, ◌++◌, Bool, true, false, ◌||◌, nat_eq, nat_le, nat_lt, not, if◌then◌else◌, List, [], ◌∷◌}
use Rattle.std.specs.Prelude.{length, codes, filter, find, map, Option, Some, None, Ok, Err}
use Rattle.std.specs.Cmp.Lexicographic.{pointwise}
use Rattle.std.specs.List.{flat_map, list_any}
use Rattle.std.specs.Option.{option_map, option_map_or}
use Rattle.toml.specs.Data.{Data, Members, get_member}
use Rattle.gw_addr.specs.Reading.{◌>>=◌}
use Rattle.gw_rules.specs.Field.{field_key}
use Rattle.gw_rules.specs.declared.field.FieldName.{FieldName}
use Rattle.gw_rules.specs.declared.field.FieldName.TheVariants as fields
use Rattle.gw_rules.specs.declared.field.TheConstants.FieldName.{ALL}
use Rattle.gw_rules.specs.declared.fields.Fields.{Fields}
use Rattle.gw_rules.specs.declared.format.Format.{Format}
use Rattle.gw_rules.specs.declared.range.Range.{Range as RuleRange}
use Rattle.gw_rules.specs.declared.rule.Rule.{Rule}
use Rattle.gw_rules.specs.declared.rule_list.TheConstants.{MAX_RANGES_IN_ALL}
use Rattle.gw_rules.specs.declared.format.Format.TheVariants as formats
use Rattle.gw_rules.specs.declared.rule_list.TheConstants.{MAX_RULES}
use Rattle.gw_rules.specs.BothWays.{back_of, way_of}
use Rattle.gw_rules.specs.Format.{names_stations}
use Rattle.gw_rules.specs.Range.{holds}
use Rattle.gw_rules.specs.RuleList.{keeps_counts, keeps_long_counts, keeps_order, ranges_in_all}
use Rattle.gw_configuration.specs.declared.fault.ConfigFault.TheVariants.{Range, TooMany}
use Rattle.gw_configuration.specs.declared.located.Place.TheVariants as places
use Rattle.gw_configuration.specs.declared.assertion.Assertion.{Assertion}
use Rattle.gw_configuration.specs.declared.policing.Policing.{Policing}
use Rattle.gw_configuration.specs.declared.set.Set.{Set}
use Rattle.gw_configuration.specs.declared.shape.Naming.{Naming}
use Rattle.gw_configuration.specs.declared.shape.Naming.TheVariants as namings
use Rattle.gw_configuration.specs.declared.shape.Scalar.{Scalar}
use Rattle.gw_configuration.specs.declared.shape.Shape.TheVariants.{Items}
use Rattle.gw_configuration.specs.Located.{Find, Located, Read, at_key, unless, whole}
use Rattle.gw_policy_text.specs.keys.Field.{located_beside, located_in}
use Rattle.gw_policy_text.specs.keys.Items.{each, ranges_in, set_name_in}
use Rattle.gw_policy_text.specs.keys.Range.{range_in}
use Rattle.gw_policy_text.specs.declared.written.Written.{Written}
use Rattle.gw_policy_text.specs.keys.Tables.{assertion_fields, format_by, is_both_ways, naming_of, rule_fields, scalar_for, scalar_of}
use Rattle.gw_policy_text.specs.keys.Tables.{set_fields}
use Rattle.gw_policy_text.specs.keys.Value.{boolean_in, rule_name_in, short_name_in, table_in, verdict_in}
use Rattle.gw_policy_text.specs.Parts.{at, each_at, list_at, list_or, optional_boolean, optional_text, within}

-- sets

-- an item that is `@` and the name
abbrev pub is_mention : List ℕ → Data → Bool
is_mention name item = option_map_or (λ other. pointwise nat_eq other name) (set_name_in item) false

abbrev pub mentions_in : List ℕ → Read (List Data) → Bool
mentions_in name (Ok items) = list_any (is_mention name) items
mentions_in name (Err fault) = false

-- a rule names a set for a field
abbrev pub mentions_for : List ℕ → Members → FieldName → Bool
mentions_for name table field = mentions_in name (list_or (get_member (field_key field) table))

abbrev pub mentions : List ℕ → Read Members → Bool
mentions name (Ok table) = list_any (mentions_for name table) ALL
mentions name (Err fault) = false

-- one of the rules or assertions does
abbrev pub is_used_by : List Data → List ℕ → Bool
is_used_by tables name = list_any (λ table. mentions name (table_in table)) tables

abbrev pub is_used : List Data → List Data → List ℕ → Bool
is_used rules assertions name = is_used_by rules name || is_used_by assertions name

abbrev pub rule_name_at : List ℕ → Members → Read (List ℕ)
rule_name_at key table = at key table >>= rule_name_in

abbrev pub set_parts : List Data → List Data → Members → Read Set
set_parts rules assertions table = do
  name ← rule_name_at (codes "name") table
  Ok (record { name = name; used = is_used rules assertions name })

-- the set at a position, of a text with these rules and assertions
unfoldable pub set_of : List Data → List Data → ℕ → Members → Find Set
set_of rules assertions set table =
    unless (located_in (places.Set set) set_fields table) (whole (set_parts rules assertions table))

abbrev pub set_in : List Data → List Data → ℕ → Data → Find Set
set_in rules assertions set value = whole (table_in value) >>= set_of rules assertions set

-- a rule, of a text with these sets

abbrev pub boolean_at : List ℕ → Members → Read Bool
boolean_at key table = at key table >>= boolean_in

-- the ranges for a field: in formats 1 and 2 of at most 4 items
abbrev pub short_ranges_at : Scalar → FieldName → Members → Read (List RuleRange)
short_ranges_at scalar field table = list_at 0 4 (field_key field) table >>= each (range_in scalar)

-- in format 3 of at most 64 items, and at most 256 of them
abbrev pub long_ranges_at : List Data → Scalar → FieldName → Members → Read (List RuleRange)
long_ranges_at sets scalar field table =
    list_at 0 64 (field_key field) table >>= ranges_in sets scalar >>= within 0 256

abbrev pub ranges_at : Naming → List Data → FieldName → Members → Read (List RuleRange)
ranges_at naming sets field table =
    if names_stations (format_by naming) then long_ranges_at sets (scalar_for naming field) field table
    else short_ranges_at (scalar_for naming field) field table

-- no rule of format 1 or 2 names the sender or the station
abbrev pub station_ranges_at : Naming → List Data → FieldName → Members → Read (List RuleRange)
station_ranges_at naming sets field table =
    if names_stations (format_by naming) then long_ranges_at sets (scalar_for naming field) field table else Ok []

abbrev pub fields_of : Naming → List Data → Members → Read (Fields (List RuleRange))
fields_of naming sets table = do
  operation ← ranges_at naming sets fields.Operation table
  port ← ranges_at naming sets fields.Port table
  source_network ← ranges_at naming sets fields.SourceNetwork table
  source_key ← ranges_at naming sets fields.SourceKey table
  destination_network ← ranges_at naming sets fields.DestinationNetwork table
  service ← ranges_at naming sets fields.Service table
  object_type ← ranges_at naming sets fields.ObjectType table
  instance ← ranges_at naming sets fields.Instance table
  property ← ranges_at naming sets fields.Property table
  priority ← ranges_at naming sets fields.Priority table
  sender ← station_ranges_at naming sets fields.Sender table
  station ← station_ranges_at naming sets fields.Station table
  Ok (record {
    operation = operation;
    port = port;
    source_network = source_network;
    source_key = source_key;
    destination_network = destination_network;
    service = service;
    object_type = object_type;
    instance = instance;
    property = property;
    priority = priority;
    sender = sender;
    station = station;
  })

-- the name of a rule, which is short where it goes both ways
abbrev pub name_in : Bool → Data → Read (List ℕ)
name_in both value = if both then short_name_in value else rule_name_in value

-- true or false at a key that format 3 alone has, and that may be missing
abbrev pub flag_at : Format → Bool → List ℕ → Members → Read Bool
flag_at format default key table = if names_stations format then optional_boolean default key table else Ok default

abbrev pub rule_parts : Format → List Data → Members → Read Rule
rule_parts format sets table = do
  name ← (at (codes "name") table >>= name_in (is_both_ways format table))
  allow ← boolean_at (codes "allow") table
  ranges ← fields_of (naming_of format table) sets table
  quiet ← flag_at format false (codes "quiet") table
  Ok (record { name = name; allow = allow; quiet = quiet; ranges = ranges })

-- the note of a rule, which in format 1 or 2 has none
abbrev pub note_at : Format → Members → Read (List ℕ)
note_at format table = if names_stations format then optional_text [] (codes "note") table else Ok []

-- a rule, with what is written with it: its note, whether what it allows is written too, whether it is there, and whether it
-- goes both ways
abbrev pub written_parts : Format → List Data → Members → Read Written
written_parts format sets table = do
  rule ← rule_parts format sets table
  note ← note_at format table
  audit ← flag_at format false (codes "audit") table
  enabled ← flag_at format true (codes "enabled") table
  Ok (record { rule = rule; note = note; audit = audit; enabled = enabled; both_ways = is_both_ways format table })

unfoldable pub rule_of : Format → List Data → ℕ → Members → Find Written
rule_of format sets rule table =
    unless (located_beside sets (places.Rule rule) (rule_fields format table) table) (whole (written_parts format sets table))

abbrev pub rule_in : Format → List Data → ℕ → Data → Find Written
rule_in format sets rule value = whole (table_in value) >>= rule_of format sets rule

-- the rules of the list

-- those that go with a rule
abbrev pub or_none : Option Rule → List Rule
or_none None = []
or_none (Some rule) = rule ∷ []

-- where it goes both ways: for its requests, and for their answers
abbrev pub way_for : Written → Option Rule
way_for written = if written.both_ways then way_of written.rule else None

abbrev pub back_for : Written → Option Rule
back_for written = if written.both_ways then Some (back_of written.rule) else None

abbrev pub others_of : Written → List Rule
others_of written = or_none (way_for written) ++ or_none (back_for written)

-- what a written rule stands for: nothing where it is turned off, else itself and those that go with it
abbrev pub stands_for : Written → List Rule
stands_for written = if written.enabled then (written.rule ∷ others_of written) else []

abbrev pub rules_of : List Written → List Rule
rules_of all = flat_map stands_for all

-- those that go with a rule have no note
abbrev pub notes_for : Written → List (List ℕ)
notes_for written = if written.enabled then (written.note ∷ map (λ rule. []) (others_of written)) else []

abbrev pub notes_of : List Written → List (List ℕ)
notes_of all = flat_map notes_for all

-- and no audit
abbrev pub audits_for : Written → List Bool
audits_for written = if written.enabled then (written.audit ∷ map (λ rule. false) (others_of written)) else []

abbrev pub audits_of : List Written → List Bool
audits_of all = flat_map audits_for all

-- for each the position of its table, the first of which has this one
abbrev pub tables_from : ℕ → List Written → List ℕ
tables_from table [] = []
tables_from table (written ∷ later) = map (λ rule. table) (stands_for written) ++ tables_from (table + 1) later

-- rules one after the other

-- the first field of which rules have more than 2048 ranges in all
unfoldable pub crowded : List Rule → Option FieldName
crowded rules = find (λ field. nat_lt MAX_RANGES_IN_ALL (ranges_in_all rules field)) ALL

-- that fault, at a rule
abbrev pub crowded_at : Format → ℕ → FieldName → Located
crowded_at format rule field = record {
  fault = TooMany;
  place = places.Rule rule;
  key = field_key field;
  item = None;
  wanted = Some (Items (scalar_of format field));
}

-- more than 512 rules, at a rule
abbrev pub overflow_at : ℕ → Located
overflow_at rule = at_key (places.Rule rule) TooMany None

-- the fault of the rules of the list up to those of the table at this position, in format 3
abbrev pub long_crowd : ℕ → List Rule → Option Located
long_crowd rule rules =
    if nat_lt MAX_RULES (length rules) then Some (overflow_at rule)
    else option_map (crowded_at formats.Three rule) (crowded rules)

abbrev pub crowd : Format → ℕ → List Rule → Option Located
crowd format rule rules = if names_stations format then long_crowd rule rules else None

-- the rules that the values say from a position on, after those that were read
abbrev pub rules_behind : Format → List Data → List Written → ℕ → List Data → Find (List Written)
rules_behind format sets before rule [] = Ok before
rules_behind format sets before rule (value ∷ later) =
    rule_in format sets rule value >>= λ read.
    unless (crowd format rule (rules_of (before ++ read ∷ [])))
    (rules_behind format sets (before ++ read ∷ []) (rule + 1) later)

-- the rules of the list, and for each the position of its table, its note and its audit
pub record Listing : Type 0 where
  pub rules : List Rule
  pub tables : List ℕ
  pub notes : List (List ℕ)
  pub audits : List Bool

abbrev pub listing_of : List Written → Listing
listing_of all = record {
  rules = rules_of all;
  tables = tables_from 0 all;
  notes = notes_of all;
  audits = audits_of all;
}

abbrev pub listing_at : Format → List Data → List Data → Find Listing
listing_at format sets values = rules_behind format sets [] 0 values >>= λ all. Ok (listing_of all)

-- an assertion, of a text with these sets

-- it may have these in the place of an operation
abbrev pub is_operation : RuleRange → Bool
is_operation range = nat_le range.high 13

abbrev pub names_any : ℕ → List RuleRange → Bool
names_any number items = list_any (holds number) items

-- of which the other items are the operations
abbrev pub operations_of : List RuleRange → List RuleRange
operations_of items = filter is_operation items

abbrev pub verdict_at : List ℕ → Members → Read Bool
verdict_at key table = at key table >>= verdict_in

abbrev pub assertion_parts : List Data → Members → Read Assertion
assertion_parts sets table = do
  name ← rule_name_at (codes "name") table
  allowed ← verdict_at (codes "verdict") table
  items ← fields_of namings.Assertion sets table
  unnamed ← optional_boolean (not allowed) (codes "unnamed") table
  note ← optional_text [] (codes "note") table
  Ok (record {
    name = name;
    is_allowed = allowed;
    ranges = record items { operation = operations_of items.operation };
    any_read = names_any 14 items.operation;
    any_write = names_any 15 items.operation;
    unnamed = unnamed;
    note = note;
  })

unfoldable pub assertion_of : List Data → ℕ → Members → Find Assertion
assertion_of sets assertion table =
    unless (located_beside sets (places.Assertion assertion) assertion_fields table) (whole (assertion_parts sets table))

abbrev pub assertion_in : List Data → ℕ → Data → Find Assertion
assertion_in sets assertion value = whole (table_in value) >>= assertion_of sets assertion

-- the whole policy

-- the tables at a key of format 3
abbrev pub long_tables : Format → List ℕ → Members → Read (List Data)
long_tables format key table = if names_stations format then list_or (get_member key table) else Ok []

-- the assertions' are at most 512
abbrev pub assertion_tables : Format → List ℕ → Members → Read (List Data)
assertion_tables format key table = if names_stations format then list_at 0 512 key table else Ok []

-- the rules as a policy
abbrev pub keeps_counts_of : Format → List Rule → Bool
keeps_counts_of format rules = if names_stations format then keeps_long_counts rules else keeps_counts rules

abbrev pub policy_of : Format → List Rule → Read (List Rule)
policy_of format rules =
    if not (keeps_counts_of format rules) then Err TooMany else if not (keeps_order rules) then Err Range else Ok rules

abbrev pub policy_at : Format → Members → Find Policing
policy_at format top = do
  tables ← whole (list_at 0 512 (codes "rule") top)
  items ← whole (long_tables format (codes "set") top)
  asserted ← whole (assertion_tables format (codes "assert") top)
  sets ← each_at (set_in tables asserted) 0 items
  listing ← listing_at format items tables
  rules ← whole (policy_of format listing.rules)
  assertions ← each_at (assertion_in items) 0 asserted
  Ok (record {
    rules = rules;
    tables = listing.tables;
    notes = listing.notes;
    audits = listing.audits;
    written = length tables;
    sets = sets;
    assertions = assertions;
  })
