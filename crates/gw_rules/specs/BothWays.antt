-- The two rules that go with a rule whose requests pass to another network and whose answers come back.
use Rattle.std.specs.Prelude.{ℕ, ◌==◌, Bool, true, false, ◌&&◌, ◌||◌, if◌then◌else◌, codes, List, [], ◌∷◌, ◌++◌, length}
use Rattle.std.specs.Prelude.{Option, Some, None}
use Rattle.std.specs.List.{list_any}
use Rattle.std.specs.Option.{option_map_or}
use Rattle.gw_rules.specs.Ask.{Ask}
use Rattle.gw_rules.specs.declared.fields.Fields.{Fields}
use Rattle.gw_rules.specs.declared.operation.Operation.{Operation}
use Rattle.gw_rules.specs.declared.operation.Operation.TheVariants.{Read, Route, Write}
use Rattle.gw_rules.specs.declared.range.Range.{Range}
use Rattle.gw_rules.specs.declared.rule.Rule.{Rule}
use Rattle.gw_rules.specs.Fields.{in_each}
use Rattle.gw_rules.specs.Operation.{operation_number}
use Rattle.gw_rules.specs.Range.{admits, holds}

-- the range of one number
abbrev pub only : ℕ → Range
only number = record { low = number; high = number }

-- the operation to route
abbrev pub routing : List Range
routing = only (operation_number Route) ∷ []

-- ---- the way of requests

-- A rule judges a request of a service that raises asks for an operation: its ranges hold the operation, and the service
-- where it names any.
abbrev pub judges : Operation → ℕ → Rule → Bool
judges operation service rule =
    list_any (holds (operation_number operation)) rule.ranges.operation && admits rule.ranges.service (Some service)

-- the range of that service, if the rule judges it
abbrev pub judged : Operation → ℕ → Rule → List Range
judged operation service rule = if judges operation service rule then only service ∷ [] else []

-- those of ReadProperty 12, ReadPropertyMultiple 14 and WriteProperty 15 that it judges (clause 15)
abbrev pub requests : Rule → List Range
requests rule = (judged Read 12 rule ++ judged Read 14 rule) ++ judged Write 15 rule

-- behind them SegmentACK 1028, by which each window of an answer in segments is acknowledged, and Abort 1031 (clause 20.1)
abbrev pub way_services : Rule → List Range
way_services rule = (requests rule ++ only 1028 ∷ []) ++ only 1031 ∷ []

-- the ranges by which such messages of the rule's stations are routed, on its ports
abbrev pub way_ranges : List Range → Rule → Fields (List Range)
way_ranges services rule = record (in_each []) {
  operation = routing;
  port = rule.ranges.port;
  source_network = rule.ranges.source_network;
  source_key = rule.ranges.source_key;
  destination_network = rule.ranges.destination_network;
  service = services;
  sender = rule.ranges.sender;
  station = rule.ranges.station;
}

-- the rule of the requests' way, or none where the rule judges no request
abbrev pub way_of : Rule → Option Rule
way_of rule =
    if length (requests rule) == 0
    then None
    else Some (record {
      name = rule.name ++ codes "-way";
      allow = true;
      quiet = false;
      ranges = way_ranges (way_services rule) rule;
    })

-- ---- the way back

-- the services of answers: SimpleACK 1026, ComplexACK, SegmentACK, Error, Reject, Abort 1031 (clause 20.1)
abbrev pub answers : List Range
answers = record { low = 1026; high = 1031 } ∷ []

-- the ranges for the source key, or where the rule names none, those for the sender
abbrev pub askers : Rule → List Range
askers rule = if length rule.ranges.source_key == 0 then rule.ranges.sender else rule.ranges.source_key

-- the ranges by which answers are routed from where the rule's requests go to where they come from
abbrev pub back_ranges : Rule → Fields (List Range)
back_ranges rule = record (in_each []) {
  operation = routing;
  source_network = rule.ranges.destination_network;
  source_key = rule.ranges.station;
  destination_network = rule.ranges.source_network;
  service = answers;
  station = askers rule;
}

-- the rule of the answers
abbrev pub back_of : Rule → Rule
back_of rule = record {
  name = rule.name ++ codes "-back";
  allow = true;
  quiet = false;
  ranges = back_ranges rule;
}

-- ---- what they match

-- the ask with its two networks exchanged, its source key as station and its station as source key
abbrev pub mirrored : Ask → Ask
mirrored ask = record ask {
  source_network = ask.destination_network;
  source_key = ask.station;
  destination_network = ask.source_network;
  station = ask.source_key;
}

-- an ask to route a message of a service that passes the test
abbrev pub routes : (ℕ → Bool) → Ask → Bool
routes test ask =
    option_map_or (λ number. number == operation_number Route) ask.operation false
    && option_map_or test ask.service false

-- one of the services of the requests' way
abbrev pub is_on_way : Rule → ℕ → Bool
is_on_way rule service =
    (judges Read 12 rule && service == 12) || ((judges Read 14 rule && service == 14)
    || ((judges Write 15 rule && service == 15) || (service == 1028 || service == 1031)))

-- one of the services of answers
abbrev pub is_answer : ℕ → Bool
is_answer service = holds service (record { low = 1026; high = 1031 })

-- the rule matches the ask by port, networks, source, sender and station
abbrev pub matches_way : Rule → Ask → Bool
matches_way rule ask =
    admits rule.ranges.port ask.port && (admits rule.ranges.source_network ask.source_network
    && (admits rule.ranges.source_key ask.source_key && (admits rule.ranges.destination_network ask.destination_network
    && (admits rule.ranges.sender ask.sender && admits rule.ranges.station ask.station))))

-- the rule matches the ask by networks and stations, a sender standing for a source that it doesn't name
abbrev pub matches_stations : Rule → Ask → Bool
matches_stations rule ask =
    admits rule.ranges.source_network ask.source_network && (admits (askers rule) ask.source_key
    && (admits rule.ranges.destination_network ask.destination_network && admits rule.ranges.station ask.station))
