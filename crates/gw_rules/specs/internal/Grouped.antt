-- A rule's fields in two groups: the operation and the three of an object, and the others.
use Rattle.std.specs.Prelude.{◌≡◌, Bool, ◌&&◌, not, List, length, map, take}
use Rattle.gw_rules.specs.Ask.{Ask}
use Rattle.gw_rules.specs.declared.rule.Rule.{Rule}
use Rattle.gw_rules.specs.Hides.{is_unnamed}
use Rattle.gw_rules.specs.Range.{admits}

-- the rule names another field than the operation and the three of an object
abbrev pub names_another : Rule → Bool
names_another rule =
    not (is_unnamed rule.ranges.port && is_unnamed rule.ranges.source_network
    && is_unnamed rule.ranges.source_key && is_unnamed rule.ranges.destination_network
    && is_unnamed rule.ranges.service && is_unnamed rule.ranges.priority
    && is_unnamed rule.ranges.sender && is_unnamed rule.ranges.station)

-- the ask meets the operation and the three fields of an object
abbrev pub meets_object : Ask → Rule → Bool
meets_object ask rule =
    admits rule.ranges.object_type ask.object_type && admits rule.ranges.instance ask.instance
    && admits rule.ranges.property ask.property && admits rule.ranges.operation ask.operation

-- it meets the others
abbrev pub meets_others : Ask → Rule → Bool
meets_others ask rule =
    admits rule.ranges.port ask.port && admits rule.ranges.source_network ask.source_network
    && admits rule.ranges.source_key ask.source_key && admits rule.ranges.destination_network ask.destination_network
    && admits rule.ranges.service ask.service && admits rule.ranges.priority ask.priority
    && admits rule.ranges.sender ask.sender && admits rule.ranges.station ask.station

-- of each rule in front is said whether it names another field
abbrev pub SayOthers : List Bool → List Rule → Type 0
SayOthers others rules = take (length rules) others ≡ map names_another rules
