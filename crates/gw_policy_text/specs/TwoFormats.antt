-- Texts as they are read where there are formats 1 and 2 alone: no port has stations or another broadcast manager, nothing
-- is announced, there are no sets, no notes, no audits and no assertions, and each table of a rule is one rule of the list.
use Rattle.std.specs.Prelude.{◌≡◌, ℕ, ◌+◌, Bool, false, not, nat_lt, if◌then◌else◌, List, [], ◌∷◌, length, map, codes, None, Ok, Err}
use Rattle.toml.specs.Data.{Data, Members}
use Rattle.gw_addr.specs.Reading.{◌>>=◌}
use Rattle.gw_addr.specs.declared.TheConstants.{MAX_PORTS}
use Rattle.gw_rules.specs.Field.{field_key}
use Rattle.gw_rules.specs.declared.field.FieldName.{FieldName}
use Rattle.gw_rules.specs.declared.field.FieldName.TheVariants as fields
use Rattle.gw_rules.specs.declared.fields.Fields.{Fields}
use Rattle.gw_rules.specs.declared.format.Format.{Format}
use Rattle.gw_rules.specs.declared.range.Range.{Range as RuleRange}
use Rattle.gw_rules.specs.declared.rule.Rule.{Rule}
use Rattle.gw_rules.specs.Format.{names_stations}
use Rattle.gw_rules.specs.RuleList.{keeps_counts, keeps_order}
use Rattle.gw_configuration.specs.declared.fault.ConfigFault.TheVariants.{Range, TooMany}
use Rattle.gw_configuration.specs.declared.located.Place.TheVariants as places
use Rattle.gw_configuration.specs.declared.port.Port.{Port}
use Rattle.gw_configuration.specs.declared.shape.Scalar.TheVariants.{Table}
use Rattle.gw_configuration.specs.declared.shape.Shape.TheVariants.{One}
use Rattle.gw_configuration.specs.Configuration.{Configuration, format_of}
use Rattle.gw_configuration.specs.Duplicates.{unique}
use Rattle.gw_configuration.specs.Located.{Find, Read, of_text, unless, whole}
use Rattle.gw_policy_text.specs.keys.Field.{Field, located_in}
use Rattle.gw_policy_text.specs.keys.Items.{each}
use Rattle.gw_policy_text.specs.keys.Range.{range_in}
use Rattle.gw_policy_text.specs.keys.Tables.{common_port_fields, common_rule_fields, format_in, may, needs, number, scalar_of, tables}
use Rattle.gw_policy_text.specs.keys.Value.{table_in}
use Rattle.gw_policy_text.specs.Document.{document, located_configuration}
use Rattle.gw_policy_text.specs.Parts.{address_at, device_at, each_at, list_at, number_at, objects_at, peers_at, routes_at}
use Rattle.gw_configuration.specs.declared.policing.Policing.{Policing}
use Rattle.gw_policy_text.specs.Policy.{boolean_at, rule_name_at}

abbrev pub top_fields : List Field
top_fields =
    needs (codes "format") (number 1 2)
    ∷ needs (codes "device") (One Table)
    ∷ needs (codes "port") (tables 1 MAX_PORTS)
    ∷ may (codes "route") (tables 0 512)
    ∷ may (codes "object") (tables 0 256)
    ∷ may (codes "rule") (tables 0 512)
    ∷ []

-- a port

abbrev pub port_parts : ℕ → Members → Find Port
port_parts port table = do
  network ← whole (number_at 1 65534 (codes "network") table)
  address ← whole (address_at (codes "address") table)
  broadcast ← whole (address_at (codes "broadcast") table)
  peers ← peers_at port (codes "peer") table
  Ok (record { network = network; address = address; broadcast = broadcast; stations = []; bbmd = None; peers = peers })

abbrev pub port_in : ℕ → Data → Find Port
port_in port value =
    whole (table_in value) >>= λ table.
    unless (located_in (places.Port port) common_port_fields table) (port_parts port table)

-- a rule of format 1 or 2, which names neither sender nor station

abbrev pub ranges_at : Format → FieldName → Members → Read (List RuleRange)
ranges_at format field table = list_at 0 4 (field_key field) table >>= each (range_in (scalar_of format field))

abbrev pub fields_of : Format → Members → Read (Fields (List RuleRange))
fields_of format table = do
  operation ← ranges_at format fields.Operation table
  port ← ranges_at format fields.Port table
  source_network ← ranges_at format fields.SourceNetwork table
  source_key ← ranges_at format fields.SourceKey table
  destination_network ← ranges_at format fields.DestinationNetwork table
  service ← ranges_at format fields.Service table
  object_type ← ranges_at format fields.ObjectType table
  instance ← ranges_at format fields.Instance table
  property ← ranges_at format fields.Property table
  priority ← ranges_at format fields.Priority table
  Ok (record {
    operation = operation;
    port = port;
    source_network = source_network;
    source_key = source_key;
    destination_network = destination_network;
    service = service;
    object_type = object_type;
    instance = instance;
    property = property;
    priority = priority;
    sender = [];
    station = [];
  })

abbrev pub rule_parts : Format → Members → Read Rule
rule_parts format table = do
  name ← rule_name_at (codes "name") table
  allow ← boolean_at (codes "allow") table
  ranges ← fields_of format table
  Ok (record { name = name; allow = allow; quiet = false; ranges = ranges })

abbrev pub rule_in : Format → ℕ → Data → Find Rule
rule_in format rule value =
    whole (table_in value) >>= λ table.
    unless (located_in (places.Rule rule) (common_rule_fields format) table) (whole (rule_parts format table))

-- the whole

abbrev pub policy_of : List Rule → Read (List Rule)
policy_of rules =
    if not (keeps_counts rules) then Err TooMany else if not (keeps_order rules) then Err Range else Ok rules

-- the position of each from this one on
abbrev pub positions : ℕ → List Rule → List ℕ
positions from [] = []
positions from (rule ∷ later) = from ∷ positions (from + 1) later

-- no note of each rule, and no audit
abbrev pub no_notes : List Rule → List (List ℕ)
no_notes rules = map (λ rule. []) rules

abbrev pub no_audits : List Rule → List Bool
no_audits rules = map (λ rule. false) rules

abbrev pub policy_at : Format → Members → Find Policing
policy_at format top = do
  tables ← whole (list_at 0 512 (codes "rule") top)
  read ← each_at (rule_in format) 0 tables
  rules ← whole (policy_of read)
  Ok (record {
    rules = rules;
    tables = positions 0 read;
    notes = no_notes read;
    audits = no_audits read;
    written = length tables;
    sets = [];
    assertions = [];
  })

abbrev pub ports_at : Members → Find (List Port)
ports_at top = whole (list_at 1 MAX_PORTS (codes "port") top) >>= each_at port_in 0

abbrev pub parts_of_format : Format → Members → Find Configuration
parts_of_format format top = do
  device ← device_at (codes "device") top
  ports ← ports_at top
  routes ← routes_at (length ports) (codes "route") top
  objects ← objects_at (codes "object") top
  policy ← policy_at format top
  Ok (record {
    format = format;
    announce = false;
    device = device;
    ports = ports;
    routes = routes;
    objects = objects;
    rules = policy.rules;
    tables = policy.tables;
    notes = policy.notes;
    audits = policy.audits;
    written = policy.written;
    sets = policy.sets;
    assertions = policy.assertions;
  })

abbrev pub parts_of : Members → Find Configuration
parts_of top = whole (number_at 1 2 (codes "format") top) >>= λ number. parts_of_format (format_of number) top

unfoldable pub configuration_of : Members → Find Configuration
configuration_of top = unless (located_in places.Top top_fields top) (parts_of top >>= unique)

abbrev pub configuration_in : List ℕ → Find Configuration
configuration_in text =
    if nat_lt 1048576 (length text) then Err (of_text TooMany) else (whole (document text) >>= configuration_of)

-- the law

-- a text whose `format` is the whole number 3
abbrev pub is_third_in : Read Members → Bool
is_third_in (Ok top) = names_stations (format_in top)
is_third_in (Err fault) = false

-- the same configuration, or the same fault at the same place; what was wanted there may be another
abbrev pub without_wanted : Find Configuration → Find Configuration
without_wanted (Ok c) = Ok c
without_wanted (Err located) = Err (record located { wanted = None })

-- law: a text of another format than the third is read as where there are two
abbrev pub TwoFormatsAreKept : Type 0
TwoFormatsAreKept = (text : List ℕ) → is_third_in (document text) ≡ false
    → without_wanted (located_configuration text) ≡ without_wanted (configuration_in text)
