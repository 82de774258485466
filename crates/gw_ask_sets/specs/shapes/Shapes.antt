-- The shapes of a configuration's asks: every ask that the gateway raises lies in one of them (`Laws.antt` of gw_verdicts).
use Rattle.std.specs.Prelude.{ℕ, ◌+◌, Bool, true, false, not, is_some, List, [], ◌∷◌, ◌++◌, length, if◌then◌else◌}
use Rattle.std.specs.List.{flat_map, list_all}
use Rattle.std.specs.Option.{option_to_list}
use Rattle.gw_configuration.specs.Configuration.{Configuration}
use Rattle.gw_configuration.specs.declared.port.Port.{Port}
use Rattle.gw_rules.specs.Bounds.{bounds}
use Rattle.gw_rules.specs.Format.{names_stations}
use Rattle.gw_rules.specs.Operation.{operation_number}
use Rattle.gw_rules.specs.Range.{holds}
use Rattle.gw_rules.specs.declared.field.FieldName.{FieldName}
use Rattle.gw_rules.specs.declared.field.FieldName.TheVariants as fields
use Rattle.gw_rules.specs.declared.format.Format.{Format}
use Rattle.gw_rules.specs.declared.format.Format.TheVariants.{One, Two, Three}
use Rattle.gw_rules.specs.declared.operation.Operation.{Operation}
use Rattle.gw_rules.specs.declared.operation.Operation.TheVariants as operations
use Rattle.gw_ask_sets.specs.shapes.Pieces.{above, below, no_range, numbers}
use Rattle.gw_ask_sets.specs.shapes.Shape.{Shape}
use Rattle.gw_ask_sets.specs.declared.shapes.side.Side.{Side}
use Rattle.gw_ask_sets.specs.declared.shapes.shapes.Entrance.{Entrance}
use Rattle.gw_ask_sets.specs.declared.shapes.shapes.Origin.{Origin}

-- ---- sides

abbrev pub only : ℕ → Side
only number = numbers number number

abbrev pub nothing : Side
nothing = record { absent = true; range = no_range; keyed = false }

-- a number that the field can have, as rules of format 3 name it; and that, or an absent field
abbrev pub some : FieldName → Side
some field = record { absent = false; range = bounds Three field; keyed = false }

abbrev pub perhaps : FieldName → Side
perhaps field = record { absent = true; range = bounds Three field; keyed = false }

-- a network (clause 6)
abbrev pub network : Side
network = numbers 1 65534

-- what a message asks for: a request or a network layer message, or an APDU that can't be read; and an APDU that answers
abbrev pub request_or_message : Side
request_or_message = record { absent = true; range = record { low = 0; high = 767 }; keyed = false }

abbrev pub answer : Side
answer = numbers 1026 1031

-- the key of an address, which has six octets (Annex J.1.2)
abbrev pub address : Side
address = numbers 0 281474976710655

-- the key of a station of any length, absent where it has none
abbrev pub any_key : Side
any_key = record { absent = true; range = record { low = 0; high = 576460752303423487 }; keyed = true }

-- an address that asks name in format 3 alone
abbrev pub address_in : Format → Side
address_in format = if names_stations format then address else nothing

-- the source of another network: in format 3 a station of any length, in the others one of six octets has a key
abbrev pub source_in : Format → Side
source_in format = if names_stations format then any_key else record address { absent = true }

-- the station that a message may name, in format 3 alone
abbrev pub station_in : Format → Side
station_in format = if names_stations format then any_key else nothing

-- ---- shapes, whose first fields say whence the asks come

-- of no network, no object and no station
abbrev pub plain : Origin → Operation → Side → Shape
plain from operation service = record {
  operation = only (operation_number operation);
  port = from.port;
  source_network = from.network;
  source_key = from.key;
  destination_network = nothing;
  service = service;
  object_type = nothing;
  instance = nothing;
  property = nothing;
  priority = nothing;
  sender = from.sender;
  station = nothing;
}

-- to a network
abbrev pub bound : Origin → Operation → Side → Side → Shape
bound from operation service destination =
    record (plain from operation service) { destination_network = destination }

-- for a property of an object there
abbrev pub named : Origin → Operation → Side → Side → Side → Shape
named from operation service destination priority = record (bound from operation service destination) {
  object_type = some fields.ObjectType;
  instance = some fields.Instance;
  property = some fields.Property;
  priority = priority;
}

-- these asks, of messages that may name one station
abbrev pub aimed : Format → Shape → Shape
aimed format shape = record shape { station = station_in format }

-- frames that read or change a table of a broadcast manager, by their function; one that deletes names a station
abbrev pub frame_shapes : Format → Origin → List Shape
frame_shapes format from =
    plain from operations.WriteTable (only 769)
    ∷ plain from operations.ReadTable (only 770)
    ∷ plain from operations.Register (only 773)
    ∷ plain from operations.ReadTable (only 774)
    ∷ record (plain from operations.Delete (only 776)) { station = address_in format }
    ∷ []

-- nobody is asked for them at a port that has another manager beside it
abbrev pub table_shapes : Format → Origin → List Shape
table_shapes format from = if from.manages then frame_shapes format from else []

-- messages that name no source, so they come from the port's own network: the networks of a router, and the question for
-- the number of the network
abbrev pub near_shapes : Origin → List Shape
near_shapes from =
    bound from operations.Learn (only 513) network ∷ bound from operations.Network (only 530) nothing ∷ []

-- broadcasts that a broadcast manager distributes
abbrev pub broadcast_shapes : Format → Origin → List Shape
broadcast_shapes format from =
    aimed format (bound from operations.Cast request_or_message (perhaps fields.DestinationNetwork))
    ∷ aimed format (bound from operations.Cast answer (perhaps fields.DestinationNetwork))
    ∷ []

-- a port that has another manager beside it distributes none
abbrev pub cast_shapes : Format → Origin → List Shape
cast_shapes format from = if from.manages then broadcast_shapes format from else []

-- what a message raises beside that: routing, the question for routers, and requests to the device on this network, of
-- which lists are of Object_Name, and of the device's Object_Identifier
abbrev pub message_shapes : Format → ℕ → Origin → List Shape
message_shapes format device from =
    aimed format (bound from operations.Route request_or_message network)
    ∷ aimed format (bound from operations.Route answer network)
    ∷ bound from operations.Network (only 512) (record network { absent = true })
    ∷ named from operations.Read (only 12) (only device) nothing
    ∷ named from operations.Read (only 14) (only device) nothing
    ∷ named from operations.Write (only 15) (only device) (some fields.Priority)
    ∷ record (named from operations.List (only 263) (only device) nothing) { property = only 77 }
    ∷ record (named from operations.List (only 264) (only device) nothing) { object_type = only 8; property = only 75 }
    ∷ []

-- reads by this service, and writes, that are passed on to such a destination: of what isn't seen, and of a property
abbrev pub passed_reads : Format → ℕ → Side → Origin → List Shape
passed_reads format service destination from =
    aimed format (bound from operations.Read (only service) destination)
    ∷ aimed format (named from operations.Read (only service) destination nothing)
    ∷ []

abbrev pub passed_writes : Format → Side → Origin → List Shape
passed_writes format destination from =
    aimed format (bound from operations.Write (only 15) destination)
    ∷ aimed format (named from operations.Write (only 15) destination (some fields.Priority))
    ∷ []

-- requests that are passed on to such a destination, by what they name
abbrev pub passed_shapes : Format → Side → Origin → List Shape
passed_shapes format destination from =
    passed_reads format 12 destination from
    ++ (passed_reads format 14 destination from ++ passed_writes format destination from)

-- where requests from there go that are judged by what they name, under the third format: in a broadcast that is
-- distributed anywhere, and else to a network
abbrev pub passed_to : Origin → Side
passed_to from = if from.manages then perhaps fields.DestinationNetwork else network

-- under the first format they aren't judged by that, under the second where they are routed, and under the third in a
-- broadcast too, which may have no destination
abbrev pub request_shapes : Format → Origin → List Shape
request_shapes One from = []
request_shapes Two from = passed_shapes Two network from
request_shapes Three from = passed_shapes Three (passed_to from) from

abbrev pub shapes_from : Format → ℕ → Origin → List Shape
shapes_from format device from =
    cast_shapes format from ++ (message_shapes format device from ++ request_shapes format from)

-- a station that enters by a port, under the third format
abbrev pub enter_shapes : Format → Origin → List Shape
enter_shapes format from = if names_stations format then plain from operations.Enter nothing ∷ [] else []

-- one that speaks for another network, under the third format
abbrev pub claim_shapes : Format → Origin → List Shape
claim_shapes format from = if names_stations format then plain from operations.Claim nothing ∷ [] else []

-- ---- whence

-- a port is the broadcast manager of its subnet: it has no other one beside it
abbrev pub is_manager : Port → Bool
is_manager port = not (is_some port.bbmd)

-- a station of a port's own network, whose address has six octets
abbrev pub own : Format → ℕ → ℕ → Bool → Origin
own format number net manages = record {
  port = only number;
  network = only net;
  key = address;
  sender = address_in format;
  manages = manages;
}

-- what comes from there
abbrev pub shapes_within : Format → ℕ → Origin → List Shape
shapes_within format device from =
    table_shapes format from ++ (enter_shapes format from ++ (near_shapes from ++ shapes_from format device from))

-- from each port's own network, with the ports counted on from a number
abbrev pub own_shapes : Format → ℕ → ℕ → List Port → List Shape
own_shapes format device number [] = []
own_shapes format device number (p ∷ ports) =
    shapes_within format device (own format number p.network (is_manager p)) ++ own_shapes format device (number + 1) ports

-- a side without a number
abbrev pub split : ℕ → Side → List Side
split number side =
    if holds number side.range
    then option_to_list (below side (only number)) ++ option_to_list (above side (only number))
    else side ∷ []

-- sides without the numbers of the ports' networks
abbrev pub gaps_between : List Side → List Port → List Side
gaps_between sides [] = sides
gaps_between sides (p ∷ ports) = gaps_between (flat_map (split p.network) sides) ports

-- all networks but the ports' and the device's
abbrev pub gaps : ℕ → List Port → List Side
gaps device ports = gaps_between (flat_map (split device) (network ∷ [])) ports

-- each port by itself, counted on from a number
abbrev pub entrances_from : ℕ → List Port → List Entrance
entrances_from number [] = []
entrances_from number (p ∷ ports) =
    record { port = only number; manages = is_manager p } ∷ entrances_from (number + 1) ports

-- all ports together
abbrev pub any_entrance : List Port → Entrance
any_entrance ports = record { port = numbers 1 (length ports); manages = true }

-- by which ports other networks reach the gateway: by any, if all are managers, and else by each
abbrev pub entrances : List Port → List Entrance
entrances ports = if list_all is_manager ports then any_entrance ports ∷ [] else entrances_from 1 ports

-- a station of such a network, by such ports; its address may have any length
abbrev pub foreign : Format → Entrance → Side → Origin
foreign format by networks = record {
  port = by.port;
  network = networks;
  key = source_in format;
  sender = address_in format;
  manages = by.manages;
}

-- what comes from there
abbrev pub shapes_beyond : Format → ℕ → Origin → List Shape
shapes_beyond format device from = claim_shapes format from ++ shapes_from format device from

abbrev pub shapes_by : Format → ℕ → Side → Entrance → List Shape
shapes_by format device networks by = shapes_beyond format device (foreign format by networks)

abbrev pub foreign_shapes : Format → ℕ → List Entrance → Side → List Shape
foreign_shapes format device ways networks = flat_map (shapes_by format device networks) ways

-- all of them
abbrev pub shapes_of : Format → ℕ → List Port → List Shape
shapes_of format device ports =
    own_shapes format device 1 ports
    ++ flat_map (foreign_shapes format device (entrances ports)) (gaps device ports)

abbrev pub shapes : Configuration → List Shape
shapes c = shapes_of c.format c.device.network c.ports
