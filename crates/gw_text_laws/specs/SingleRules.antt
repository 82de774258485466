-- Texts as they are read where there are neither `both_ways`, `enabled` and `quiet` of a rule nor assertions: each table of a rule is
-- one rule of the list, none is quiet, and nothing is asserted.
use Rattle.std.specs.Prelude.{◌≡◌, ℕ, ◌+◌, ◌++◌, Bool, true, false, ◌&&◌, nat_lt, if◌then◌else◌, List, [], ◌∷◌, length, map, take, codes}
use Rattle.std.specs.Prelude.{Ok, Err}
use Rattle.std.specs.List.{list_all}
use Rattle.toml.specs.Data.{Data, Members, get_member}
use Rattle.gw_addr.specs.Reading.{◌>>=◌}
use Rattle.gw_rules.specs.declared.format.Format.{Format}
use Rattle.gw_rules.specs.declared.format.Format.TheVariants as formats
use Rattle.gw_rules.specs.declared.rule.Rule.{Rule}
use Rattle.gw_configuration.specs.declared.fault.ConfigFault.TheVariants.{TooMany}
use Rattle.gw_configuration.specs.declared.located.Place.TheVariants as places
use Rattle.gw_configuration.specs.declared.policing.Policing.{Policing}
use Rattle.gw_configuration.specs.declared.shape.Naming.TheVariants as namings
use Rattle.gw_configuration.specs.declared.shape.Scalar.TheVariants.{Boolean}
use Rattle.gw_configuration.specs.declared.shape.Shape.TheVariants.{One}
use Rattle.gw_configuration.specs.Configuration.{Configuration}
use Rattle.gw_configuration.specs.Duplicates.{unique}
use Rattle.gw_configuration.specs.Located.{Find, Read, of_text, unless, whole}
use Rattle.gw_policy_text.specs.keys.Field.{Field, located_beside, located_in}
use Rattle.gw_policy_text.specs.keys.Tables.{common_rule_fields, common_top_fields, every_rule_field, format_in, may, tables}
use Rattle.gw_policy_text.specs.keys.Value.{table_in}
use Rattle.gw_policy_text.specs.Document.{document, located_configuration}
use Rattle.gw_policy_text.specs.OneEach.{lacks, lacks_in}
use Rattle.gw_policy_text.specs.Parts.{announce_at, device_at, each_at, format_at, list_at, list_or, objects_at, ports_at, routes_at}
use Rattle.gw_policy_text.specs.Policy.{boolean_at, crowd, fields_of, flag_at, long_tables, note_at, policy_of, rule_name_at, set_in}

-- the fields that there are then

abbrev pub top_fields : Format → List Field
top_fields formats.Three =
    common_top_fields ++ may (codes "set") (tables 0 1048576) ∷ may (codes "announce") (One Boolean) ∷ []
top_fields _ = common_top_fields

-- up to the note and the audit
abbrev pub rule_fields : Format → List Field
rule_fields formats.Three = take 16 (every_rule_field (namings.Rule formats.Three) false)
rule_fields format = common_rule_fields format

-- what is read then

-- a rule, its note, and whether what it allows is written too
pub record Noted : Type 0 where
  pub rule : Rule
  pub note : List ℕ
  pub audit : Bool

abbrev pub rule_parts : Format → List Data → Members → Read Rule
rule_parts format sets table = do
  name ← rule_name_at (codes "name") table
  allow ← boolean_at (codes "allow") table
  ranges ← fields_of (namings.Rule format) sets table
  Ok (record { name = name; allow = allow; quiet = false; ranges = ranges })

abbrev pub noted_parts : Format → List Data → Members → Read Noted
noted_parts format sets table = do
  rule ← rule_parts format sets table
  note ← note_at format table
  audit ← flag_at format false (codes "audit") table
  Ok (record { rule = rule; note = note; audit = audit })

abbrev pub rule_of : Format → List Data → ℕ → Members → Find Noted
rule_of format sets rule table =
    unless (located_beside sets (places.Rule rule) (rule_fields format) table) (whole (noted_parts format sets table))

abbrev pub rule_in : Format → List Data → ℕ → Data → Find Noted
rule_in format sets rule value = whole (table_in value) >>= rule_of format sets rule

abbrev pub rules_of : List Noted → List Rule
rules_of all = map (λ noted. noted.rule) all

-- the rules that the values say from a position on, after those that were read
abbrev pub rules_behind : Format → List Data → List Noted → ℕ → List Data → Find (List Noted)
rules_behind format sets before rule [] = Ok before
rules_behind format sets before rule (value ∷ later) =
    rule_in format sets rule value >>= λ read.
    unless (crowd format rule (rules_of (before ++ read ∷ [])))
    (rules_behind format sets (before ++ read ∷ []) (rule + 1) later)

-- the position of the table of each, from this one on
abbrev pub positions : ℕ → List Noted → List ℕ
positions from [] = []
positions from (noted ∷ later) = from ∷ positions (from + 1) later

abbrev pub policy_at : Format → Members → Find Policing
policy_at format top = do
  tables ← whole (list_at 0 512 (codes "rule") top)
  items ← whole (long_tables format (codes "set") top)
  sets ← each_at (set_in tables []) 0 items
  read ← rules_behind format items [] 0 tables
  rules ← whole (policy_of format (rules_of read))
  Ok (record {
    rules = rules;
    tables = positions 0 read;
    notes = map (λ noted. noted.note) read;
    audits = map (λ noted. noted.audit) read;
    written = length tables;
    sets = sets;
    assertions = [];
  })

abbrev pub parts_of_format : Format → Members → Find Configuration
parts_of_format format top = do
  announce ← whole (announce_at format (codes "announce") top)
  device ← device_at (codes "device") top
  ports ← ports_at format (codes "port") top
  routes ← routes_at (length ports) (codes "route") top
  objects ← objects_at (codes "object") top
  policy ← policy_at format top
  Ok (record {
    format = format;
    announce = announce;
    device = device;
    ports = ports;
    routes = routes;
    objects = objects;
    rules = policy.rules;
    tables = policy.tables;
    notes = policy.notes;
    audits = policy.audits;
    written = policy.written;
    sets = policy.sets;
    assertions = policy.assertions;
  })

abbrev pub parts_of : Members → Find Configuration
parts_of top = whole (format_at (codes "format") top) >>= λ format. parts_of_format format top

unfoldable pub configuration_of : Members → Find Configuration
configuration_of top = unless (located_in places.Top (top_fields (format_in top)) top) (parts_of top >>= unique)

abbrev pub configuration_in : List ℕ → Find Configuration
configuration_in text =
    if nat_lt 1048576 (length text) then Err (of_text TooMany) else (whole (document text) >>= configuration_of)

-- which texts

-- no table of a rule has one of the three keys
abbrev pub all_lack : Read (List Data) → Bool
all_lack (Ok rules) = list_all (λ value. lacks_in (table_in value)) rules
all_lack (Err fault) = true

-- nor has the text an assertion
abbrev pub lacks_keys : Members → Bool
lacks_keys top = lacks (codes "assert") top && all_lack (list_or (get_member (codes "rule") top))

abbrev pub lacks_keys_in : Read Members → Bool
lacks_keys_in (Ok top) = lacks_keys top
lacks_keys_in (Err fault) = true

-- law: each such text is read as where there are no such keys
abbrev pub TextsOfSingleRulesAreAsBefore : Type 0
TextsOfSingleRulesAreAsBefore =
    (text : List ℕ) → lacks_keys_in (document text) ≡ true → located_configuration text ≡ configuration_in text
