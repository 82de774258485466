-- What a gateway takes over of what was saved of another one, whose configuration may differ. Of what is
-- configured and can be written, the newer word counts: if the configuration says something else than it
-- did then, that.
use Rattle.std.specs.Prelude.{ℕ, zero, suc, ◌+◌, Bool, nat_eq, ◌&&◌, if◌then◌else◌, List, [], ◌∷◌, map, find}
use Rattle.std.specs.Prelude.{filter_map, is_some, slice_get, Option, Some, None}
use Rattle.std.specs.Cmp.Lexicographic.{pointwise}
use Rattle.std.specs.Option.{option_and_then, option_map}
use Rattle.gw_addr.specs.declared.entry.BdtEntry.{BdtEntry}
use Rattle.gw_tables.specs.bdt_fdt.Kept.{restored}
use Rattle.gw_tables.specs.declared.bdt_fdt.tables.PortTables.{PortTables}
use Rattle.gw_tables.specs.bdt_fdt.Registrations.{same as same_address}
use Rattle.gw_configuration.specs.declared.object.Object.{Object as ConfiguredObject}
use Rattle.gw_configuration.specs.declared.port.Port.{Port as ConfiguredPort}
use Rattle.gw_objects.specs.declared.configured.Details.{Details}
use Rattle.gw_objects.specs.declared.value.PropertyValue.{PropertyValue}
use Rattle.gw_objects.specs.Objects.{Slots, default_of, details_of}
use Rattle.gw_objects.specs.Objects.{same as same_object}
use Rattle.gw_objects.specs.Values.{fits, same_value}
use Rattle.gw_tables.specs.priority.Commandable.{no_command}
use Rattle.gw_tables.specs.declared.routes.route.Route.{Route}
use Rattle.gw_tables.specs.routes.Table.{Routed, route_by}
use Rattle.gw_state.specs.declared.port.SavedPort.{SavedPort}
use Rattle.gw_state.specs.Saved.{Saved, SavedObject, id_of}

-- ---- the ports' tables

-- a port is the one that was saved: it has its network and its own address
abbrev pub is_port : ConfiguredPort → SavedPort → Bool
is_port p s = nat_eq p.network s.network && same_address p.address s.address

-- two entries are one: their addresses and their masks are equal
abbrev pub same_entry : BdtEntry → BdtEntry → Bool
same_entry a b = same_address a.address b.address && pointwise nat_eq a.mask b.mask

-- two lists have the same entries in the same order
abbrev pub are_same : List BdtEntry → List BdtEntry → Bool
are_same a b = pointwise same_entry a b

-- the table of peers of a port: the one that was saved, unless other peers are configured now
abbrev pub entries_from : ConfiguredPort → SavedPort → List BdtEntry
entries_from p s = if are_same s.peers p.peers then s.entries else p.peers

-- the tables of a port after so many ticks that is the broadcast manager of its subnet: a port that was saved has its foreign
-- devices, and its table of peers; another begins anew
abbrev pub manager_tables : ℕ → ConfiguredPort → Option SavedPort → PortTables
manager_tables ticks p None = record { bdt = p.peers; fdt = restored ticks [] }
manager_tables ticks p (Some s) = record { bdt = entries_from p s; fdt = restored ticks s.devices }

-- the tables of a port that has another broadcast manager beside it: no peers and no foreign devices
abbrev pub no_tables : ℕ → PortTables
no_tables ticks = record { bdt = []; fdt = restored ticks [] }

-- the tables of a port after so many ticks, which was saved or not: it has none if another broadcast manager is beside it now
abbrev pub tables_from : ℕ → ConfiguredPort → Option SavedPort → PortTables
tables_from ticks p s = if is_some p.bbmd then no_tables ticks else manager_tables ticks p s

abbrev pub tables_carried : ℕ → List ConfiguredPort → List SavedPort → List PortTables
tables_carried ticks ports saved = map (λ p. tables_from ticks p (find (is_port p) saved)) ports

-- ---- the routes

-- the number of the port that was saved so, counted on from one
abbrev pub number_now : ℕ → List ConfiguredPort → SavedPort → Option ℕ
number_now number [] s = None
number_now number (p ∷ ports) s = if is_port p s then Some number else number_now (number + 1) ports s

-- the port that had this number
abbrev pub port_then : List SavedPort → ℕ → Option SavedPort
port_then saved zero = None
port_then saved (suc place) = slice_get saved place

-- a route by the same port, which may have another number now, if it is still there
abbrev pub route_from : List ConfiguredPort → List SavedPort → ℕ × Route → Option (ℕ × Route)
route_from ports saved learned =
    option_map (λ number. (learned.0, route_by number learned.1.next))
    (option_and_then (number_now 1 ports) (port_then saved learned.1.port))

-- the routes by the ports that are still there, in their order
abbrev pub routes_carried : List ConfiguredPort → Saved → Routed
routes_carried ports s = filter_map (route_from ports s.ports) s.routes

-- ---- the objects

-- a slot keeps its value if that is in range, and else is empty
abbrev pub slot_from : Details → Option PropertyValue → Option PropertyValue
slot_from d None = None
slot_from d (Some value) = if fits d value then Some value else None

-- the default: the one that was saved, unless another is configured now or it is out of range
abbrev pub default_from : ConfiguredObject → SavedObject → PropertyValue
default_from object s =
    if same_value s.configured (default_of object.value) && fits (details_of object.value) s.slots.default
    then s.slots.default else default_of object.value

-- an object that was saved has its slots, and its default; another begins anew
abbrev pub slots_from : ConfiguredObject → Option SavedObject → Slots
slots_from object None = no_command (default_of object.value)
slots_from object (Some s) = record {
  slots = map (slot_from (details_of object.value)) s.slots.slots;
  default = default_from object s;
}

abbrev pub is_object : ConfiguredObject → SavedObject → Bool
is_object object s = same_object (id_of object) s.object

abbrev pub states_carried : List ConfiguredObject → List SavedObject → List Slots
states_carried objects saved = map (λ object. slots_from object (find (is_object object) saved)) objects
