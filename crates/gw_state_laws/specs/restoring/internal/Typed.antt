-- What is so of each saved state of the code, by the types of its parts alone.
use Rattle.std.specs.Prelude.{◌≡◌, ◌<◌, ◌≤◌, ◌^◌, ⊤, true, false, length, IfSome}
use Rattle.std.specs.List.{AllByRecursion}
use Rattle.std.specs.Str.{is_utf8}
use Rattle.gw_addr.specs.Entry.{IsBdtEntry}
use Rattle.gw_tables.specs.bdt_fdt.Kept.{are_restorable}
use Rattle.gw_tables.specs.bdt_fdt.Peers.{are_too_many, has_twice}
use Rattle.gw_objects.specs.declared.value.PropertyValue.{PropertyValue}
use Rattle.gw_objects.specs.declared.value.PropertyValue.TheVariants.{Binary, State, Text, Integer, PositiveInteger}
use Rattle.gw_state.specs.declared.port.SavedPort.{SavedPort}
use Rattle.gw_state.specs.Saved.{Saved, SavedObject, are_countable, are_few}
use Rattle.gw_state_text.specs.Fit.{IsDevice, IsPlace, IsRoute}
use Rattle.gw_codecs.specs.tags.Number.{IsSigned}
use Rattle.gw_codecs.specs.tags.Object.{IsObject}

-- a value in the range of its type: numbers of 32 bits, and texts of at most 255 octets of UTF-8
abbrev pub IsValue : PropertyValue → Type 0
IsValue (Binary active) = ⊤
IsValue (State number) = number < 2 ^ 32
IsValue (Text octets) = (length octets ≤ 255) × (is_utf8 octets ≡ true)
IsValue (Integer number) = IsSigned number
IsValue (PositiveInteger number) = number < 2 ^ 32

-- a port: its peers and its tables are within their limits, and no address is twice in a table
pub record IsPort (port : SavedPort) : Type 0 where
  pub place : IsPlace port.network port.address
  pub peers : AllByRecursion IsBdtEntry port.peers
  pub few_peers : length port.peers ≤ 64
  pub entries : AllByRecursion IsBdtEntry port.entries
  pub few_entries : are_too_many port.entries ≡ false
  pub once : has_twice port.entries ≡ false
  pub devices : AllByRecursion IsDevice port.devices
  pub restorable : are_restorable port.devices ≡ true

-- an object: its identifier fits its bits, and each value is in the range of its type
pub record IsSavedObject (saved : SavedObject) : Type 0 where
  pub object : IsObject saved.object
  pub configured : IsValue saved.configured
  pub default : IsValue saved.slots.default
  pub slots : AllByRecursion (λ slot. IfSome slot IsValue) saved.slots.slots

-- a saved state
pub record IsTyped (saved : Saved) : Type 0 where
  pub few : are_few saved.ports saved.routes saved.objects ≡ true
  pub counts : are_countable saved.counts ≡ true
  pub ports : AllByRecursion IsPort saved.ports
  pub routes : AllByRecursion IsRoute saved.routes
  pub objects : AllByRecursion IsSavedObject saved.objects
