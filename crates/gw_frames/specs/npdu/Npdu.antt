-- The network layer's message (NPDU) of ISO 16484-5, clause 6.2: its fields without memory, its
-- octets, and which octets are a message with these fields.
use Rattle.std.specs.Prelude.{◌≡◌, ◌≢◌, ℕ, ◌+◌, ◌*◌, ◌^◌, ◌<◌, ◌≤◌, ◌⊎◌, Bool, true, false}
use Rattle.std.specs.Prelude.{List, [], ◌∷◌, ◌++◌, length, Option, Some, None, is_some}
use Rattle.std.specs.Prelude.{IfSome, IsSomeAnd, MatchOption}
use Rattle.std.specs.Option.{option_map}
use Rattle.std.specs.Int.{w16, to_be_bytes}
use Rattle.gw_frames.specs.declared.npdu.address.AddressRef.{AddressRef}
use Rattle.gw_frames.specs.declared.npdu.address.Destination.{Destination as LentDestination}
use Rattle.gw_frames.specs.declared.npdu.message.NetMessage.{NetMessage}
use Rattle.gw_frames.specs.declared.npdu.npdu.Priority.{Priority}
use Rattle.gw_frames.specs.declared.npdu.npdu.Priority.TheVariants as priorities
use Rattle.gw_frames.specs.declared.npdu.npdu.Payload.{Payload as LentPayload}
use Rattle.gw_frames.specs.declared.npdu.npdu.Payload.TheVariants as lent
use Rattle.gw_frames.specs.declared.npdu.npdu.Npdu.{Npdu}
use Rattle.gw_frames.specs.npdu.Numbers.{protocol_version, message_bit, bit_six, destination_bit}
use Rattle.gw_frames.specs.npdu.Numbers.{bit_four, source_bit, reply_bit, every_network}
use Rattle.gw_frames.specs.npdu.Numbers.{first_vendor_kind}

-- ---- the fields

-- a BACnetAddress: a network, and the address of a station on it
pub record Address : Type 0 where
  pub network : ℕ
  pub mac : List ℕ

-- whom a message is bound for: DNET and DADR, and the hop count (6.2.2, 6.2.3). No DADR: each
-- station of the network.
pub record Destination : Type 0 where
  pub address : Address
  pub hops : ℕ

-- a network layer message (6.2.4): its type, the vendor that a type from 80 on has, and what follows
pub record Message : Type 0 where
  pub kind : ℕ
  pub vendor : Option ℕ
  pub octets : List ℕ

-- what a message carries: an APDU, or a network layer message (6.2.2, bit 7 of the control octet)
pub data Payload : Type 0 where
  apdu : List ℕ → Payload
  message : Message → Payload

-- the fields of an NPDU (6.2); the source is SNET and SADR
pub record Fields : Type 0 where
  pub destination : Option Destination
  pub source : Option Address
  pub reply_expected : Bool
  pub priority : ℕ
  pub payload : Payload

-- ---- their octets

-- whether the payload is a network layer message
abbrev pub is_message : Payload → Bool
is_message (apdu octets) = false
is_message (message m) = true

-- 1 for a bit that is set
abbrev pub bit : Bool → ℕ
bit false = 0
bit true = 1

-- the bits that say which parts are in the message
abbrev pub parts_bits : Fields → ℕ
parts_bits f =
    message_bit * bit (is_message f.payload)
    + destination_bit * bit (is_some f.destination)
    + source_bit * bit (is_some f.source)

-- the control octet (6.2.2) with both reserved bits zero
abbrev pub control : Fields → ℕ
control f = parts_bits f + reply_bit * bit f.reply_expected + f.priority

-- a network in two octets, the length of the station's address in one, and that address (6.2.2)
abbrev pub address_part : Address → List ℕ
address_part a = to_be_bytes w16 a.network ++ length a.mac ∷ [] ++ a.mac

-- DNET, DLEN and DADR
abbrev pub destination_part : Option Destination → List ℕ
destination_part None = []
destination_part (Some d) = address_part d.address

-- SNET, SLEN and SADR
abbrev pub source_part : Option Address → List ℕ
source_part None = []
source_part (Some a) = address_part a

-- the hop count, which follows the source
abbrev pub hops_part : Option Destination → List ℕ
hops_part None = []
hops_part (Some d) = d.hops ∷ []

-- the vendor of a message type from 80 on, in two octets (6.2.4)
abbrev pub vendor_part : Option ℕ → List ℕ
vendor_part None = []
vendor_part (Some v) = to_be_bytes w16 v

-- the type and the vendor of a network layer message
abbrev pub payload_part : Payload → List ℕ
payload_part (apdu octets) = []
payload_part (message m) = m.kind ∷ [] ++ vendor_part m.vendor

-- the octets of the payload that no field of the network layer names
abbrev pub payload_octets : Payload → List ℕ
payload_octets (apdu octets) = octets
payload_octets (message m) = m.octets

-- everything in front of those octets, with this version and these reserved bits
abbrev pub header_with : ℕ → ℕ → Fields → List ℕ
header_with version reserved f =
    version ∷ [] ++ (control f + reserved) ∷ []
    ++ destination_part f.destination ++ source_part f.source
    ++ hops_part f.destination ++ payload_part f.payload

-- the canonical header: version 1, and reserved bits zero
abbrev pub header : Fields → List ℕ
header f = header_with protocol_version 0 f

-- the one canonical encoding
abbrev pub encoding : Fields → List ℕ
encoding f = header f ++ payload_octets f.payload

-- The most octets in front of the payload's own: version and control, two addresses of 255 octets,
-- a hop count, a type and a vendor.
abbrev pub max_header_len : ℕ
max_header_len = 2 + (3 + 255) + (3 + 255) + 1 + 3

-- ---- which fields are valid

-- Each number of an address fits its octets.
abbrev pub FitsAddress : Address → Type 0
FitsAddress a = (a.network < 2 ^ 16) × (length a.mac < 2 ^ 8)

-- A network layer message holds a vendor exactly with a type from 80 on (6.2.4).
abbrev pub FitsMessage : Message → Type 0
FitsMessage m =
    MatchOption m.vendor (m.kind < first_vendor_kind)
    (λ v. (first_vendor_kind ≤ m.kind) × (m.kind < 2 ^ 8) × (v < 2 ^ 16))

abbrev pub FitsPayload : Payload → Type 0
FitsPayload (apdu octets) = Unit {0}
FitsPayload (message m) = FitsMessage m

-- Each number fits the octets or bits that it is written in.
pub record Fits (f : Fields) : Type 0 where
  pub destination : IfSome f.destination (λ d. FitsAddress d.address × (d.hops < 2 ^ 8))
  pub source : IfSome f.source FitsAddress
  pub priority : f.priority < 2 ^ 2
  pub payload : FitsPayload f.payload

-- A destination that names no network, or every network with an address (6.2.2).
abbrev pub IsBadDestination : Destination → Type 0
IsBadDestination d =
    (d.address.network ≡ 0) ⊎ ((d.address.network ≡ every_network) × (0 < length d.address.mac))

-- A source that is no one station of one network (6.2.2).
abbrev pub IsBadSource : Address → Type 0
IsBadSource a = (a.network ≡ 0) ⊎ ((a.network ≡ every_network) ⊎ (length a.mac ≡ 0))

abbrev pub HasBadAddress : Fields → Type 0
HasBadAddress f = IsSomeAnd f.destination IsBadDestination ⊎ IsSomeAnd f.source IsBadSource

-- The fields of a message that can be sent.
pub record IsValid (f : Fields) : Type 0 where
  pub fits : Fits f
  pub addressed : ¬ HasBadAddress f

-- ---- the octets of a message

-- The reserved bits, each set or not.
abbrev pub IsReserved : ℕ → Type 0
IsReserved n = (six : Bool) × (four : Bool) × (n ≡ bit_six * bit six + bit_four * bit four)

-- The octets are laid out as clause 6.2 says: a version, a control octet, each part that it names,
-- and a payload. Nothing is said of the version and of what the addresses mean.
pub record IsLaidOut (octets : List ℕ) (version : ℕ) (f : Fields) : Type 0 where
  pub reserved : ℕ
  pub is_reserved : IsReserved reserved
  pub parts : octets ≡ header_with version reserved f ++ payload_octets f.payload
  pub fits : Fits f

-- The octets are a message with these fields. Reserved bits are ignored.
pub record IsNpdu (octets : List ℕ) (f : Fields) : Type 0 where
  pub laid_out : IsLaidOut octets protocol_version f
  pub addressed : ¬ HasBadAddress f

-- ---- what is wrong with octets that are no message

-- They are laid out as a message of no version and no fields: they end before a field that they
-- name.
abbrev pub IsShort : List ℕ → Type 0
IsShort octets = ¬ ((version : ℕ) × (f : Fields) × IsLaidOut octets version f)

-- They are laid out as a message of another version than 1.
abbrev pub IsBadVersion : List ℕ → Type 0
IsBadVersion octets =
    (version : ℕ) × (f : Fields) × IsLaidOut octets version f × (version ≢ protocol_version)

-- They are laid out as a message of version 1, with an address that none can have.
abbrev pub IsBadAddress : List ℕ → Type 0
IsBadAddress octets = (f : Fields) × IsLaidOut octets protocol_version f × HasBadAddress f

-- ---- what the code's values mean

-- a priority by its number (6.2.2)
abbrev pub priority_of : Priority → ℕ
priority_of priorities.Normal = 0
priority_of priorities.Urgent = 1
priority_of priorities.CriticalEquipment = 2
priority_of priorities.LifeSafety = 3

abbrev pub address_view : AddressRef → Address
address_view a = record { network = a.network; mac = a.mac.now }

abbrev pub destination_view : LentDestination → Destination
destination_view d = record {
  address = record { network = d.network; mac = d.mac.now };
  hops = d.hops;
}

abbrev pub message_view : NetMessage → Message
message_view m = record { kind = m.kind; vendor = m.vendor; octets = m.octets.now }

abbrev pub payload_view : LentPayload → Payload
payload_view (lent.Apdu octets) = apdu octets.now
payload_view (lent.Message m) = message (message_view m)

abbrev pub view : Npdu → Fields
view n = record {
  destination = option_map destination_view n.destination;
  source = option_map address_view n.source;
  reply_expected = n.reply_expected;
  priority = priority_of n.priority;
  payload = payload_view n.payload;
}
