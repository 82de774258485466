-- Computes; believe `IsNpdu` (Npdu.antt). How octets are read as a message, from the front, with the
-- first fault by number. The law `laws::reading` ties what is computed here to the relations.
use Rattle.std.specs.Prelude.{ℕ, Bool, true, false, ◌&&◌, ◌||◌, ◌==◌, if◌then◌else◌, nat_lt}
use Rattle.std.specs.Prelude.{List, length, Option, Some, None, Result, Ok, Err}
use Rattle.std.specs.Int.{w16}
use Rattle.std.specs.Int.RustNames.{bit_and}
use Rattle.gw_addr.specs.Reading.{◌>>=◌, octet_at, front_at, number_at}
use Rattle.gw_frames.specs.declared.npdu.fault.NpduFault.{NpduFault}
use Rattle.gw_frames.specs.declared.npdu.fault.NpduFault.TheVariants as faults
use Rattle.gw_frames.specs.npdu.Numbers.{protocol_version, message_bit, destination_bit, source_bit}
use Rattle.gw_frames.specs.npdu.Numbers.{reply_bit, priority_bits, every_network, first_vendor_kind}
use Rattle.gw_frames.specs.npdu.Npdu.{Address, Destination, Message, Payload, apdu, message, Fields}

-- whether this bit of the octet is set
abbrev pub is_set : ℕ → ℕ → Bool
is_set octet worth = bit_and octet worth == worth

-- a network and the address of a station there
abbrev pub address_at : List ℕ → Result (Address × List ℕ) NpduFault
address_at octets = do
  network ← number_at faults.Short w16 octets
  len ← octet_at faults.Short network.1
  mac ← front_at faults.Short len.0 len.1
  Ok (record { network = network.0; mac = mac.0 }, mac.1)

-- an address, if the control octet names one
abbrev pub named_at : Bool → List ℕ → Result (Option Address × List ℕ) NpduFault
named_at false octets = Ok (None, octets)
named_at true octets = do
  found ← address_at octets
  Ok (Some found.0, found.1)

-- the hop count of a destination, if there is one
abbrev pub hops_at : Option Address → List ℕ → Result (Option Destination × List ℕ) NpduFault
hops_at None octets = Ok (None, octets)
hops_at (Some bound) octets = do
  hops ← octet_at faults.Short octets
  Ok (Some (record { address = bound; hops = hops.0 }), hops.1)

-- a network layer message of a type that the standard numbers
abbrev pub standard_message : ℕ → List ℕ → Result Message NpduFault
standard_message kind octets = Ok (record { kind = kind; vendor = None; octets = octets })

-- a network layer message of a type that a vendor numbers
abbrev pub vendor_message_at : ℕ → List ℕ → Result Message NpduFault
vendor_message_at kind octets = do
  vendor ← number_at faults.Short w16 octets
  Ok (record { kind = kind; vendor = Some vendor.0; octets = vendor.1 })

-- a network layer message: all the octets that are left
abbrev pub message_at : List ℕ → Result Message NpduFault
message_at octets = do
  kind ← octet_at faults.Short octets
  if nat_lt kind.0 first_vendor_kind then standard_message kind.0 kind.1 else vendor_message_at kind.0 kind.1

-- the payload: all the octets that are left
abbrev pub payload_at : Bool → List ℕ → Result Payload NpduFault
payload_at false octets = Ok (apdu octets)
payload_at true octets = do
  found ← message_at octets
  Ok (message found)

-- a version, and the fields after it
pub record RawNpdu : Type 0 where
  pub version : ℕ
  pub fields : Fields

-- what is read of these parts
abbrev pub raw_npdu : ℕ → ℕ → Option Destination → Option Address → Payload → RawNpdu
raw_npdu version control destination source payload = record {
  version = version;
  fields = record {
    destination = destination;
    source = source;
    reply_expected = is_set control reply_bit;
    priority = bit_and control priority_bits;
    payload = payload;
  };
}

-- all parts that the octets name, none of them judged
abbrev pub raw_at : List ℕ → Result RawNpdu NpduFault
raw_at octets = do
  version ← octet_at faults.Short octets
  control ← octet_at faults.Short version.1
  bound ← named_at (is_set control.0 destination_bit) control.1
  source ← named_at (is_set control.0 source_bit) bound.1
  destination ← hops_at bound.0 source.1
  payload ← payload_at (is_set control.0 message_bit) destination.1
  Ok (raw_npdu version.0 control.0 destination.0 source.0 payload)

-- whether a destination names no network, or every network with an address
abbrev pub is_bad_destination : Destination → Bool
is_bad_destination d =
    d.address.network == 0
    || (d.address.network == every_network && nat_lt 0 (length d.address.mac))

-- a destination that can be meant
abbrev pub destination_of : Option Destination → Result (Option Destination) NpduFault
destination_of None = Ok None
destination_of (Some d) = if is_bad_destination d then Err faults.Address else Ok (Some d)

-- whether a source is no one station of one network
abbrev pub is_bad_source : Address → Bool
is_bad_source a = a.network == 0 || a.network == every_network || length a.mac == 0

-- a source that can be meant
abbrev pub source_of : Option Address → Result (Option Address) NpduFault
source_of None = Ok None
source_of (Some a) = if is_bad_source a then Err faults.Address else Ok (Some a)

-- the fields, once they are judged
abbrev pub fields_of : Fields → Result Fields NpduFault
fields_of f = do
  destination ← destination_of f.destination
  source ← source_of f.source
  Ok (record f { destination = destination; source = source })

-- the message that the octets are, or the first fault by number
abbrev pub npdu_at : List ℕ → Result Fields NpduFault
npdu_at octets = do
  raw ← raw_at octets
  if raw.version == protocol_version then fields_of raw.fields else Err faults.Version
