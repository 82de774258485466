-- What the values mean that the reader makes before it judges them.
use Rattle.std.specs.Option.{option_map}
use Rattle.gw_frames.specs.declared.npdu.raw.RawAddress.{RawAddress}
use Rattle.gw_frames.specs.declared.npdu.raw.RawDestination.{RawDestination}
use Rattle.gw_frames.specs.declared.npdu.raw.RawNpdu.{RawNpdu as LentRawNpdu}
use Rattle.gw_frames.specs.npdu.Npdu.{Address, Destination, Fields, payload_view, priority_of}
use Rattle.gw_frames.specs.npdu.Reading.{RawNpdu}

abbrev pub raw_address_view : RawAddress → Address
raw_address_view a = record { network = a.network; mac = a.mac.now }

abbrev pub raw_destination_view : RawDestination → Destination
raw_destination_view d = record { address = raw_address_view d.address; hops = d.hops }

abbrev pub raw_fields : LentRawNpdu → Fields
raw_fields r = record {
  destination = option_map raw_destination_view r.destination;
  source = option_map raw_address_view r.source;
  reply_expected = r.reply_expected;
  priority = priority_of r.priority;
  payload = payload_view r.payload;
}

abbrev pub raw_view : LentRawNpdu → RawNpdu
raw_view r = record { version = r.version; fields = raw_fields r }
