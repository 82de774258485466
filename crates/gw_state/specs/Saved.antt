-- What of a gateway outlives it, with what was configured of it then.
use Rattle.std.specs.Prelude.{ℕ, ◌^◌, Bool, ◌&&◌, nat_le, List, [], ◌∷◌, length, map}
use Rattle.gw_addr.specs.declared.entry.BdtEntry.{BdtEntry}
use Rattle.gw_tables.specs.bdt_fdt.Kept.{kept}
use Rattle.gw_tables.specs.bdt_fdt.Registrations.{Registered}
use Rattle.gw_configuration.specs.Configuration.{Configuration}
use Rattle.gw_configuration.specs.declared.object.Object.{Object as ConfiguredObject}
use Rattle.gw_configuration.specs.declared.port.Port.{Port as ConfiguredPort}
use Rattle.gw_objects.specs.declared.value.PropertyValue.{PropertyValue}
use Rattle.gw_objects.specs.Objects.{Slots, configured_of, default_of, object_id_of}
use Rattle.gw_tables.specs.routes.Table.{Routed}
use Rattle.gw_codecs.specs.tags.Object.{Object}
use Rattle.gw_state.specs.declared.counts.SavedCounts.{SavedCounts}
use Rattle.gw_state.specs.declared.origin.OriginPort.{OriginPort}
use Rattle.gw_state.specs.declared.port.SavedPort.{SavedPort}

-- ---- what is configured of what can be written

-- a value object: its identifier, and its default
pub record OriginObject : Type 0 where
  pub object : Object
  pub default : PropertyValue

-- the ports with their peers, and the value objects, each in order
pub record Origin : Type 0 where
  pub ports : List OriginPort
  pub objects : List OriginObject

abbrev pub origin_port : ConfiguredPort → OriginPort
origin_port p = record { network = p.network; address = p.address; peers = p.peers }

abbrev pub id_of : ConfiguredObject → Object
id_of object = object_id_of (configured_of object)

abbrev pub origin_object : ConfiguredObject → OriginObject
origin_object object = record { object = id_of object; default = default_of object.value }

-- what is configured so in a configuration
abbrev pub origin_of : Configuration → Origin
origin_of c = record {
  ports = map origin_port c.ports;
  objects = map origin_object c.objects;
}

-- ---- what is saved

-- a value object: its identifier, the default that was configured, and its slots and its default
pub record SavedObject : Type 0 where
  pub object : Object
  pub configured : PropertyValue
  pub slots : Slots

-- the ports in order; the learned routes, each by the number of one of these ports, counted from 1; the
-- value objects in order; and the counts
pub record Saved : Type 0 where
  pub ports : List SavedPort
  pub routes : Routed
  pub objects : List SavedObject
  pub counts : SavedCounts

-- the same, with this number of the last denial
abbrev pub with_denials : Saved → ℕ → Saved
with_denials s denials = record s { counts = record s.counts { denials = denials } }

-- a port with its table of peers and its foreign devices
abbrev pub saved_port : OriginPort → List BdtEntry → Registered → SavedPort
saved_port p entries rows = record {
  network = p.network;
  address = p.address;
  peers = p.peers;
  entries = entries;
  devices = map kept rows;
}

-- a value object with its slots
abbrev pub saved_object : OriginObject → Slots → SavedObject
saved_object object slots = record {
  object = object.object;
  configured = object.default;
  slots = slots;
}

-- the value objects, each with its slots, which have the same order
abbrev pub saved_objects : List OriginObject → List Slots → List SavedObject
saved_objects [] states = []
saved_objects (object ∷ objects) [] = []
saved_objects (object ∷ objects) (slots ∷ states) = saved_object object slots ∷ saved_objects objects states

-- ---- the limits

-- at most 8 ports, 512 routes and 256 value objects, as a configuration has
abbrev pub are_few : List SavedPort → Routed → List SavedObject → Bool
are_few ports routes objects =
    nat_le (length ports) 8 && (nat_le (length routes) 512 && nat_le (length objects) 256)

-- the tables have seen no more ticks than the gateway, and no count is past 2^63
abbrev pub are_countable : SavedCounts → Bool
are_countable counts =
    nat_le counts.since counts.ticks && (nat_le counts.ticks (2 ^ 63) && nat_le counts.denials (2 ^ 63))
