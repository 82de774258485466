-- What a gateway is configured with.
use Rattle.std.specs.Prelude.{ℕ, ◌+◌, Bool, true, ◌&&◌, ◌||◌, ◌==◌, not, is_some, nat_eq, nat_le, nat_lt, if◌then◌else◌, List}
use Rattle.std.specs.Prelude.{[], ◌∷◌, length}
use Rattle.std.specs.Cmp.Lexicographic.{pointwise}
use Rattle.std.specs.List.{list_all}
use Rattle.std.specs.Option.{option_map_or}
use Rattle.gw_addr.specs.declared.TheConstants.{MAX_PORTS}
use Rattle.gw_addr.specs.declared.bip.BipAddr.{BipAddr}
use Rattle.gw_rules.specs.declared.format.Format.{Format}
use Rattle.gw_rules.specs.declared.format.Format.TheVariants as formats
use Rattle.gw_rules.specs.declared.rule.Rule.{Rule}
use Rattle.gw_rules.specs.declared.range.Range.{Range}
use Rattle.gw_rules.specs.declared.rule.TheConstants.{MAX_LONG_RANGES}
use Rattle.gw_rules.specs.declared.rule_list.TheConstants.{MAX_RULES}
use Rattle.gw_rules.specs.declared.fields.Fields.{Fields}
use Rattle.gw_rules.specs.Bounds.{are_bounded}
use Rattle.gw_rules.specs.Fields.{value_of}
use Rattle.gw_rules.specs.Format.{names_stations}
use Rattle.gw_rules.specs.Name.{is_no_rule}
use Rattle.gw_rules.specs.Rule.{each_field}
use Rattle.gw_rules.specs.RuleList.{has_no_quiet, keeps_counts as has_short_fields}
use Rattle.gw_configuration.specs.declared.assertion.Assertion.{Assertion}
use Rattle.gw_configuration.specs.declared.assertion.TheConstants.{MAX_ASSERTIONS}
use Rattle.gw_configuration.specs.declared.device.Device.{Device}
use Rattle.gw_configuration.specs.declared.object.Object.{Object}
use Rattle.gw_configuration.specs.declared.policing.Policing.{Policing}
use Rattle.gw_configuration.specs.declared.port.Port.{Port}
use Rattle.gw_configuration.specs.declared.route.Route.{Route}
use Rattle.gw_configuration.specs.declared.set.Set.{Set}

-- what contracts see of a configuration, `announce` being whether it announces networks: for each rule in order there is the
-- position, from 0, of the table of the text that it comes from, one note, empty if it has none, and one audit: whether what it
-- allows is written too; `written` is how many tables of rules the text has
pub record Configuration : Type 0 where
  pub format : Format
  pub announce : Bool
  pub device : Device
  pub ports : List Port
  pub routes : List Route
  pub objects : List Object
  pub rules : List Rule
  pub tables : List ℕ
  pub notes : List (List ℕ)
  pub audits : List Bool
  pub written : ℕ
  pub sets : List Set
  pub assertions : List Assertion

-- its policy
abbrev pub policing_of : Configuration → Policing
policing_of c = record {
  rules = c.rules;
  tables = c.tables;
  notes = c.notes;
  audits = c.audits;
  written = c.written;
  sets = c.sets;
  assertions = c.assertions;
}

-- the format of a number
abbrev pub format_of : ℕ → Format
format_of number = if number == 1 then formats.One else if number == 2 then formats.Two else formats.Three

-- a route by one of so many ports
abbrev pub is_by : ℕ → Route → Bool
is_by ports route = nat_le 1 route.port && nat_le route.port ports

-- a name isn't empty
abbrev pub is_named : List ℕ → Bool
is_named name = nat_le 1 (length name)

-- the device and each object have a name
abbrev pub are_named : Device → List Object → Bool
are_named device objects = is_named device.name && list_all (λ object. is_named object.name) objects

-- a rule that a configuration of this format can have: it isn't named as the log names no rule, and its fields can have
-- what it names
abbrev pub is_configurable : Format → Rule → Bool
is_configurable format rule = not (is_no_rule rule.name) && are_bounded format rule.ranges

-- 1 to 8 ports, at most 512 routes, each by one of the ports, and at most 256 objects
abbrev pub keeps_counts : Configuration → Bool
keeps_counts c =
    nat_le 1 (length c.ports) && (nat_le (length c.ports) MAX_PORTS && (nat_le (length c.routes) 512
    && (nat_le (length c.objects) 256 && list_all (is_by (length c.ports)) c.routes)))

-- positions of tables, of so many, in order from this one on
abbrev pub are_places : ℕ → ℕ → List ℕ → Bool
are_places written least [] = true
are_places written least (place ∷ later) =
    nat_le least place && (nat_lt place written && are_places written place later)

-- a table, a note and an audit for each rule, and rules that a configuration can have
abbrev pub keeps_rules : Format → Policing → Bool
keeps_rules format policy =
    (length policy.tables == length policy.rules)
    && ((length policy.notes == length policy.rules)
    && ((length policy.audits == length policy.rules)
    && (list_all (is_configurable format) policy.rules
    && (nat_le policy.written MAX_RULES && are_places policy.written 0 policy.tables))))

-- at most 256 ranges for each field
abbrev pub has_long_fields : Fields (List Range) → Bool
has_long_fields ranges = each_field (λ field. nat_le (length (value_of field ranges)) MAX_LONG_RANGES)

-- an assertion that a configuration can have
abbrev pub is_assertable : Assertion → Bool
is_assertable assertion =
    not (is_no_rule assertion.name) && (are_bounded formats.Three assertion.ranges && has_long_fields assertion.ranges)

-- at most 512 such ones
abbrev pub keeps_assertions : List Assertion → Bool
keeps_assertions assertions = nat_le (length assertions) MAX_ASSERTIONS && list_all is_assertable assertions

-- ---- a port beside another broadcast manager

-- two addresses have the same six octets
abbrev pub is_same_address : BipAddr → BipAddr → Bool
is_same_address a b = pointwise nat_eq a.ip b.ip && nat_eq a.udp b.udp

-- a broadcast manager beside a port: it has neither the port's own address nor its broadcast address, and the port has no
-- peers
abbrev pub is_beside : Port → BipAddr → Bool
is_beside port manager =
    not (is_same_address manager port.address)
    && (not (is_same_address manager port.broadcast) && (length port.peers == 0))

-- a port that is the manager of its subnet, or has another one beside it
abbrev pub is_managed : Port → Bool
is_managed port = option_map_or (is_beside port) port.bbmd true

-- ---- the whole

-- what a port of a configuration of format 1 or 2 doesn't have: stations, and another broadcast manager
abbrev pub is_plain_port : Port → Bool
is_plain_port port = (length port.stations == 0) && not (is_some port.bbmd)

-- each rule comes from the table of its own position
abbrev pub are_counted : ℕ → List ℕ → Bool
are_counted from [] = true
are_counted from (place ∷ later) = (place == from) && are_counted (from + 1) later

-- what a configuration of format 1 or 2 doesn't have: stations of a port and another broadcast manager of its subnet, sets,
-- notes, audits, more than four ranges for a field of a rule, a quiet rule, a table that is another number of rules than one,
-- and assertions
abbrev pub is_plain : List Port → Policing → Bool
is_plain ports policy =
    list_all is_plain_port ports
    && (has_short_fields policy.rules
    && (has_no_quiet policy.rules
    && (list_all (λ note. length note == 0) policy.notes
    && (list_all not policy.audits
    && ((length policy.sets == 0)
    && ((length policy.assertions == 0)
    && ((policy.written == length policy.tables) && are_counted 0 policy.tables)))))))

-- these, names that aren't empty, ports that are managed, and in formats 1 and 2 nothing that they don't have, which
-- announce nothing
abbrev pub keeps_limits : Configuration → Bool
keeps_limits c =
    keeps_counts c
    && (are_named c.device c.objects
    && (list_all is_managed c.ports
    && (keeps_rules c.format (policing_of c)
    && (keeps_assertions c.assertions
    && (names_stations c.format || (not c.announce && is_plain c.ports (policing_of c)))))))
