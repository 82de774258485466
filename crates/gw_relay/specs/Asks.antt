-- What is asked of the policy for a frame that reads or changes a table of its port, and for a
-- message that is passed on.
use Rattle.std.specs.Prelude.{ℕ, List, [], ◌∷◌, Option, Some, None, if◌then◌else◌}
use Rattle.std.specs.Option.{option_map, option_map_or}
use Rattle.gw_addr.specs.declared.bip.BipAddr.{BipAddr}
use Rattle.gw_addr.specs.Address.{big_endian, octets_of}
use Rattle.gw_codecs.specs.apdu.Reading.{service_at}
use Rattle.gw_frames.specs.bvll.Bvll.{write_bdt, read_bdt, register, read_fdt, delete, function_of, octet_of}
use Rattle.gw_frames.specs.bvll.Bvll.{Message as Frame}
use Rattle.gw_frames.specs.npdu.Npdu.{Fields, Payload, apdu, message}
use Rattle.gw_rules.specs.Ask.{Ask, ask_of}
use Rattle.gw_rules.specs.Format.{key_in, names_stations}
use Rattle.gw_rules.specs.Service.{service_number}
use Rattle.gw_rules.specs.declared.format.Format.{Format}
use Rattle.gw_rules.specs.declared.operation.Operation.{Operation}
use Rattle.gw_rules.specs.declared.operation.Operation.TheVariants as operations
use Rattle.gw_rules.specs.declared.service.Service.TheVariants.{BvllFunction, NetworkMessage}
use Rattle.gw_relay.specs.Message.{Message}
use Rattle.gw_relay.specs.State.{is_manager}
use Rattle.gw_relay.specs.declared.port.Port.{Port}

-- ---- the stations of a message, which asks have where the format names stations

-- an address as the key of a station
abbrev pub station_key : Format → BipAddr → Option ℕ
station_key format address =
    if names_stations format then Some (big_endian (octets_of address)) else None

-- who sent the datagram
abbrev pub sender_of : Format → BipAddr → Option ℕ
sender_of format from = station_key format from

-- the one station that a message is bound for: a DADR that has a key
abbrev pub station_of : Format → Fields → Option ℕ
station_of format npdu =
    if names_stations format then option_map_or (λ d. key_in format d.address.mac) npdu.destination None
    else None

-- the station whose registration a frame is to delete
abbrev pub deleted_station : Format → Frame → Option ℕ
deleted_station format (delete address) = station_key format address
deleted_station format other = None

-- ---- tables of a port (Annex J.2.2, J.2.3, J.2.6, J.2.7, J.2.9)

-- what a frame is about to do with a table of its port, or none if it manages none
abbrev pub management_of : Frame → Option Operation
management_of (write_bdt entries) = Some operations.WriteTable
management_of read_bdt = Some operations.ReadTable
management_of (register time_to_live) = Some operations.Register
management_of read_fdt = Some operations.ReadTable
management_of (delete address) = Some operations.Delete
management_of other = None

-- the ask of such a frame, which its sender claims to have sent
abbrev pub link_ask : Format → Port → BipAddr → Frame → Operation → Ask
link_ask format port from frame operation = record (ask_of operation) {
  port = Some port.number;
  source_network = Some port.network;
  source_key = Some (big_endian (octets_of from));
  service = Some (service_number (BvllFunction (octet_of (function_of frame))));
  sender = sender_of format from;
  station = deleted_station format frame;
}

-- one ask, unless another broadcast manager is beside the port: then the port has no tables
abbrev pub link_asks : Format → Port → BipAddr → Frame → List Ask
link_asks format port from frame =
    option_map_or (λ operation. if is_manager port then link_ask format port from frame operation ∷ [] else [])
    (management_of frame) []

-- ---- a message that is passed on (Annex J.4, J.5; clause 6.5)

-- the service of a payload: what an APDU asks for, or the type of a network layer message; an APDU
-- that can't be read has none
abbrev pub service_of : Payload → Option ℕ
service_of (apdu octets) = service_at octets
service_of (message m) = Some (service_number (NetworkMessage m.kind))

-- the ask of a message that goes to that network: it comes from the source that the message claims
abbrev pub message_ask : Format → Operation → Message → Option ℕ → Ask
message_ask format operation m destination = record (ask_of operation) {
  port = Some m.here.port.number;
  source_network = Some m.claim.net;
  source_key = key_in format m.claim.mac;
  destination_network = destination;
  service = service_of m.npdu.payload;
  sender = sender_of format m.from;
}

-- the ask of a message that is passed on, which has the station that it is bound for
abbrev pub passing_ask : Format → Operation → Message → Option ℕ → Ask
passing_ask format operation m destination =
    record (message_ask format operation m destination) { station = station_of format m.npdu }

-- the network that a message is bound for, if it names one
abbrev pub bound_for : Fields → Option ℕ
bound_for npdu = option_map (λ d. d.address.network) npdu.destination
