-- Which states have a text that is read back: all that a gateway saves.
use Rattle.std.specs.Prelude.{◌≡◌, ℕ, ◌<◌, ◌≤◌, ◌^◌, ◌==◌, ◌&&◌, Bool, true, false, if◌then◌else◌, List, [], ◌∷◌, get_or, length, nat_eq}
use Rattle.std.specs.Prelude.{Option, Some, None, ⊤}
use Rattle.std.specs.List.{list_any}
use Rattle.std.specs.Str.{is_utf8}
use Rattle.gw_addr.specs.declared.bip.BipAddr.{BipAddr}
use Rattle.gw_addr.specs.declared.entry.BdtEntry.{BdtEntry}
use Rattle.gw_addr.specs.Address.{IsAddress}
use Rattle.gw_addr.specs.Entry.{IsBdtEntry}
use Rattle.gw_tables.specs.declared.bdt_fdt.kept.KeptDevice.{KeptDevice}
use Rattle.gw_tables.specs.bdt_fdt.Kept.{is_due, is_of_device}
use Rattle.gw_tables.specs.bdt_fdt.Peers.{is_of}
use Rattle.gw_tables.specs.bdt_fdt.Registrations.{same}
use Rattle.gw_configuration.specs.declared.object.ObjectKind.{ObjectKind}
use Rattle.gw_configuration.specs.declared.object.ObjectKind.TheVariants as kinds
use Rattle.gw_configuration.specs.Kinds.{kind_numbered}
use Rattle.gw_objects.specs.declared.value.PropertyValue.{PropertyValue}
use Rattle.gw_objects.specs.declared.value.PropertyValue.TheVariants.{Binary, State, Text, Integer, PositiveInteger}
use Rattle.gw_tables.specs.declared.routes.route.Route.{Route}
use Rattle.gw_state.specs.declared.port.SavedPort.{SavedPort}
use Rattle.gw_state.specs.Saved.{Saved, SavedObject, are_countable}
use Rattle.gw_codecs.specs.tags.Number.{IsSigned}
use Rattle.gw_codecs.specs.tags.Object.{IsObject, Object}
use Rattle.gw_state_text.specs.Items.{AreItems}
use Rattle.gw_state.specs.declared.counts.SavedCounts.{SavedCounts}

-- ---- values of the types of the code

-- each count fits 64 bits
pub record AreCounts (counts : SavedCounts) : Type 0 where
  pub since : counts.since < 2 ^ 64
  pub ticks : counts.ticks < 2 ^ 64
  pub denials : counts.denials < 2 ^ 64

-- a network's number, 1 to 65534, and an address
pub record IsPlace (network : ℕ) (own : BipAddr) : Type 0 where
  pub low : 1 ≤ network
  pub high : network ≤ 65534
  pub address : IsAddress own

pub record IsDevice (device : KeptDevice) : Type 0 where
  pub address : IsAddress device.address
  pub time_to_live : device.time_to_live < 2 ^ 16
  pub left : device.left < 2 ^ 64

pub record IsRoute (route : ℕ × Route) : Type 0 where
  pub network : IsPlace route.0 route.1.next
  pub port : route.1.port < 2 ^ 8

-- a value that objects of this type have
abbrev pub FitsKind : ObjectKind → PropertyValue → Type 0
FitsKind kinds.BinaryValue (Binary active) = ⊤
FitsKind kinds.MultiStateValue (State number) = number < 2 ^ 32
FitsKind kinds.CharacterStringValue (Text octets) = (length octets ≤ 255) × (is_utf8 octets ≡ true)
FitsKind kinds.IntegerValue (Integer number) = IsSigned number
FitsKind kinds.PositiveIntegerValue (PositiveInteger number) = number < 2 ^ 32
FitsKind _ _ = ⊥

-- ---- what can follow what

-- an entry whose address no entry before it has
pub record FitsEntries (before : List BdtEntry) (entry : BdtEntry) : Type 0 where
  pub is : IsBdtEntry entry
  pub once : list_any (is_of entry.address) before ≡ false

-- a device with a tick to come and no more than it was granted, whose address no device before it has
pub record FitsDevices (before : List KeptDevice) (device : KeptDevice) : Type 0 where
  pub is : IsDevice device
  pub due : is_due device ≡ true
  pub once : list_any (is_of_device device.address) before ≡ false

-- a route goes to this network
abbrev pub is_to : ℕ → ℕ × Route → Bool
is_to network route = nat_eq network route.0

-- a route by one of so many ports, to a network to which no route before it goes
pub record FitsRoutes (ports : ℕ) (before : List (ℕ × Route)) (route : ℕ × Route) : Type 0 where
  pub is : IsRoute route
  pub low : 1 ≤ route.1.port
  pub high : route.1.port ≤ ports
  pub once : list_any (is_to route.0) before ≡ false

-- a port is that of a network and an address
abbrev pub is_at : ℕ → BipAddr → SavedPort → Bool
is_at network address port = nat_eq network port.network && same address port.address

-- a port with its tables, whose network and address together no port before it has
pub record FitsPorts (before : List SavedPort) (port : SavedPort) : Type 0 where
  pub is : IsPlace port.network port.address
  pub once : list_any (is_at port.network port.address) before ≡ false
  pub peers : AreItems FitsEntries 64 port.peers
  pub entries : AreItems FitsEntries 64 port.entries
  pub devices : AreItems FitsDevices 128 port.devices

-- the value of each slot that isn't empty is one of the type
unfoldable pub AreOfKind : ObjectKind → List (Option PropertyValue) → Type 0
AreOfKind kind [] = ⊤
AreOfKind kind (None ∷ slots) = AreOfKind kind slots
AreOfKind kind (Some value ∷ slots) = FitsKind kind value × AreOfKind kind slots

-- an object is that of an identifier
abbrev pub is_object : Object → SavedObject → Bool
is_object wanted object = nat_eq wanted.kind object.object.kind && nat_eq wanted.instance object.object.instance

-- an object with sixteen slots, of which the sixth is empty (clause 19.2.3), and whose identifier no object before it has
pub record FitsObjects (before : List SavedObject) (object : SavedObject) : Type 0 where
  pub is : IsObject object.object
  pub kind : ObjectKind
  pub known : kind_numbered object.object.kind ≡ Some kind
  pub once : list_any (is_object object.object) before ≡ false
  pub configured : FitsKind kind object.configured
  pub default : FitsKind kind object.slots.default
  pub sixteen : length object.slots.slots ≡ 16
  pub slots : AreOfKind kind object.slots.slots
  pub sixth : get_or object.slots.slots 5 None ≡ None

-- a state that a gateway can save
pub record AreFit (saved : Saved) : Type 0 where
  pub counts : are_countable saved.counts ≡ true
  pub ports : AreItems FitsPorts 8 saved.ports
  pub routes : AreItems (FitsRoutes (length saved.ports)) 512 saved.routes
  pub objects : AreItems FitsObjects 256 saved.objects
