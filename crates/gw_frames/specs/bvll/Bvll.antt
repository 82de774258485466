-- The messages of the BACnet virtual link layer (Annex J.2): their fields and their octets.
use Rattle.std.specs.Prelude.{◌≡◌, ℕ, ◌+◌, ◌^◌, ◌<◌, List, [], ◌∷◌, ◌++◌, length, Option, Some, None}
use Rattle.std.specs.List.{flat_map, AllByRecursion}
use Rattle.std.specs.Int.{w16, to_be_bytes}
use Rattle.gw_addr.specs.declared.bip.BipAddr.{BipAddr}
use Rattle.gw_addr.specs.declared.entry.BdtEntry.{BdtEntry}
use Rattle.gw_addr.specs.declared.entry.FdtEntry.{FdtEntry}
use Rattle.gw_addr.specs.Address.{octets_of, IsAddress}
use Rattle.gw_addr.specs.Entry.{bdt_octets, fdt_octets, bdt_entry, fdt_entry}
use Rattle.gw_addr.specs.Entry.{IsBdtEntry, IsFdtEntry}
use Rattle.gw_addr.specs.Reading.{AreOctets}
use Rattle.gw_frames.specs.declared.bvll.function.Function.{Function}
use Rattle.gw_frames.specs.declared.bvll.function.Function.TheVariants as functions
use Rattle.gw_frames.specs.declared.bvll.message.Bvll.{Bvll}
use Rattle.gw_frames.specs.declared.bvll.message.Bvll.TheVariants as bvll
use Rattle.gw_frames.specs.bvll.Entries.{lent}

-- a message with its fields, without where its octets lie in memory
pub data Message : Type 0 where
  result_code : (code : ℕ) → Message
  write_bdt : (entries : List BdtEntry) → Message
  read_bdt : Message
  read_bdt_ack : (entries : List BdtEntry) → Message
  forwarded : (originator : BipAddr) (npdu : List ℕ) → Message
  register : (time_to_live : ℕ) → Message
  read_fdt : Message
  read_fdt_ack : (entries : List FdtEntry) → Message
  delete : (address : BipAddr) → Message
  distribute : (npdu : List ℕ) → Message
  original_unicast : (npdu : List ℕ) → Message
  original_broadcast : (npdu : List ℕ) → Message

-- the fields of a message
abbrev pub view : Bvll → Message
view (bvll.Result code) = result_code code.0
view (bvll.WriteBdt entries) = write_bdt (lent bdt_entry entries)
view bvll.ReadBdt = read_bdt
view (bvll.ReadBdtAck entries) = read_bdt_ack (lent bdt_entry entries)
view (bvll.Forwarded originator npdu) = forwarded originator npdu.now
view (bvll.Register time_to_live) = register time_to_live
view bvll.ReadFdt = read_fdt
view (bvll.ReadFdtAck entries) = read_fdt_ack (lent fdt_entry entries)
view (bvll.Delete address) = delete address
view (bvll.Distribute npdu) = distribute npdu.now
view (bvll.OriginalUnicast npdu) = original_unicast npdu.now
view (bvll.OriginalBroadcast npdu) = original_broadcast npdu.now

-- ---- the octets of a message

-- the second octet of a message
abbrev pub octet_of : Function → ℕ
octet_of functions.Result = 0x00
octet_of functions.WriteBdt = 0x01
octet_of functions.ReadBdt = 0x02
octet_of functions.ReadBdtAck = 0x03
octet_of functions.Forwarded = 0x04
octet_of functions.Register = 0x05
octet_of functions.ReadFdt = 0x06
octet_of functions.ReadFdtAck = 0x07
octet_of functions.Delete = 0x08
octet_of functions.Distribute = 0x09
octet_of functions.OriginalUnicast = 0x0A
octet_of functions.OriginalBroadcast = 0x0B

-- the function of a message
abbrev pub function_of : Message → Function
function_of (result_code code) = functions.Result
function_of (write_bdt entries) = functions.WriteBdt
function_of read_bdt = functions.ReadBdt
function_of (read_bdt_ack entries) = functions.ReadBdtAck
function_of (forwarded originator npdu) = functions.Forwarded
function_of (register time_to_live) = functions.Register
function_of read_fdt = functions.ReadFdt
function_of (read_fdt_ack entries) = functions.ReadFdtAck
function_of (delete address) = functions.Delete
function_of (distribute npdu) = functions.Distribute
function_of (original_unicast npdu) = functions.OriginalUnicast
function_of (original_broadcast npdu) = functions.OriginalBroadcast

-- what follows the four octets of the header
abbrev pub body_of : Message → List ℕ
body_of (result_code code) = to_be_bytes w16 code
body_of (write_bdt entries) = flat_map bdt_octets entries
body_of read_bdt = []
body_of (read_bdt_ack entries) = flat_map bdt_octets entries
body_of (forwarded originator npdu) = octets_of originator ++ npdu
body_of (register time_to_live) = to_be_bytes w16 time_to_live
body_of read_fdt = []
body_of (read_fdt_ack entries) = flat_map fdt_octets entries
body_of (delete address) = octets_of address
body_of (distribute npdu) = npdu
body_of (original_unicast npdu) = npdu
body_of (original_broadcast npdu) = npdu

-- the octets of a message: 81, the function, the length of the whole message, and the body
abbrev pub encoding : Message → List ℕ
encoding message =
    0x81 ∷ octet_of (function_of message) ∷ to_be_bytes w16 (4 + length (body_of message))
    ++ body_of message

-- fields that fit their octets
abbrev pub HasFields : Message → Type 0
HasFields (result_code code) = code < 2 ^ 16
HasFields (write_bdt entries) = AllByRecursion IsBdtEntry entries
HasFields read_bdt = Unit {0}
HasFields (read_bdt_ack entries) = AllByRecursion IsBdtEntry entries
HasFields (forwarded originator npdu) = IsAddress originator × AreOctets npdu
HasFields (register time_to_live) = time_to_live < 2 ^ 16
HasFields read_fdt = Unit {0}
HasFields (read_fdt_ack entries) = AllByRecursion IsFdtEntry entries
HasFields (delete address) = IsAddress address
HasFields (distribute npdu) = AreOctets npdu
HasFields (original_unicast npdu) = AreOctets npdu
HasFields (original_broadcast npdu) = AreOctets npdu

-- a message whose fields fit their octets, and whose length fits the length field
pub record IsValid (message : Message) : Type 0 where
  pub fields : HasFields message
  pub size : length (encoding message) < 2 ^ 16

-- the octets are a message with these fields
pub record IsBvll (octets : List ℕ) (message : Message) : Type 0 where
  pub valid : IsValid message
  pub encoded : octets ≡ encoding message

-- ---- the codes of a result (Annex J.2.1)

-- done as asked
abbrev pub success : ℕ
success = 0x0000

-- the code by which what a function asks for is refused
abbrev pub refusal : Function → Option ℕ
refusal functions.WriteBdt = Some 0x0010
refusal functions.ReadBdt = Some 0x0020
refusal functions.Register = Some 0x0030
refusal functions.ReadFdt = Some 0x0040
refusal functions.Delete = Some 0x0050
refusal functions.Distribute = Some 0x0060
refusal _ = None
