-- What a gateway of a configuration takes over of a saved state, part by part, and why it doesn't take over the rest.
use Rattle.std.specs.Prelude.{ℕ, ◌+◌, Bool, ◌&&◌, ◌||◌, not, nat_eq, if◌then◌else◌, List, [], ◌∷◌, ◌++◌, length, map, take, find}
use Rattle.std.specs.Prelude.{count_by, is_some, Option, Some, None}
use Rattle.std.specs.List.{flat_map, list_any, sum_by}
use Rattle.std.specs.Option.{option_map_or}
use Rattle.gw_addr.specs.declared.bip.BipAddr.{BipAddr}
use Rattle.gw_tables.specs.bdt_fdt.Registrations.{same as same_address}
use Rattle.gw_configuration.specs.Configuration.{Configuration}
use Rattle.gw_configuration.specs.declared.object.Object.{Object as ConfiguredObject}
use Rattle.gw_configuration.specs.declared.port.Port.{Port as ConfiguredPort}
use Rattle.gw_objects.specs.declared.configured.Details.{Details}
use Rattle.gw_objects.specs.declared.value.PropertyValue.{PropertyValue}
use Rattle.gw_objects.specs.Objects.{default_of, details_of}
use Rattle.gw_objects.specs.Objects.{same as same_object}
use Rattle.gw_objects.specs.Values.{fits, same_value}
use Rattle.gw_tables.specs.declared.routes.route.Route.{Route}
use Rattle.gw_tables.specs.routes.Table.{Routed, learned_by}
use Rattle.gw_relay.specs.Initial.{first_table}
use Rattle.gw_state.specs.Carried.{are_same, is_object, is_port, route_from, routes_carried}
use Rattle.gw_state.specs.declared.port.SavedPort.{SavedPort}
use Rattle.gw_state.specs.Saved.{Saved, SavedObject, id_of}
use Rattle.gw_codecs.specs.tags.Object.{Object}
use Rattle.gw_state_words.specs.declared.takeover.finding.Absence.{Absence}
use Rattle.gw_state_words.specs.declared.takeover.finding.Absence.TheVariants.{NotConfigured, Twice}
use Rattle.gw_state_words.specs.declared.takeover.finding.TakeoverFinding.{TakeoverFinding}
use Rattle.gw_state_words.specs.declared.takeover.finding.TakeoverFinding.TheVariants as found
use Rattle.gw_state_words.specs.declared.takeover.finding.HeldPlace.{HeldPlace}
use Rattle.gw_state_words.specs.declared.takeover.finding.HeldPlace.TheVariants.{Slot, Default}
use Rattle.gw_state_words.specs.declared.takeover.finding.ObjectName.{ObjectName}
use Rattle.gw_state_words.specs.declared.takeover.finding.PortName.{PortName}
use Rattle.gw_state_words.specs.declared.takeover.finding.RouteFate.{RouteFate}
use Rattle.gw_state_words.specs.declared.takeover.finding.RouteFate.TheVariants as routes
use Rattle.gw_state_words.specs.declared.takeover.finding.RouteFinding.{RouteFinding}
use Rattle.gw_state_words.specs.declared.takeover.finding.Sizes.{Sizes}
use Rattle.gw_state_words.specs.declared.takeover.finding.TableFate.{TableFate}
use Rattle.gw_state_words.specs.declared.takeover.finding.TableFate.TheVariants as tables
use Rattle.gw_state_words.specs.declared.takeover.finding.ValueFate.{ValueFate}
use Rattle.gw_state_words.specs.declared.takeover.finding.ValueFate.TheVariants as values

-- nothing is taken over of what isn't configured, nor of what appears in the state for the second time
abbrev pub absence_of : Bool → Bool → Option Absence
absence_of configured repeated =
    if configured then (if repeated then Some Twice else None) else Some NotConfigured

-- ---- ports

abbrev pub port_name : ℕ → BipAddr → PortName
port_name network address = record { network = network; address = address }

abbrev pub sizes_of : SavedPort → Sizes
sizes_of s = record { peers = length s.entries; devices = length s.devices }

-- no table was written if the port had the peers that were configured then; and it has the peers that are configured now
-- if they are those of the table; beside another broadcast manager it has no tables
abbrev pub table_fate : ConfiguredPort → SavedPort → TableFate
table_fate p s =
    if is_some p.bbmd then tables.OtherManager
    else if are_same s.entries p.peers then tables.AsConfigured
    else if are_same s.peers p.peers then tables.TakenOver
    else if are_same s.entries s.peers then tables.AsConfigured else tables.OtherPeers

-- a configured port, which was saved or not
abbrev pub port_finding : ℕ → ConfiguredPort → Option SavedPort → TakeoverFinding
port_finding number p None = found.NewPort number (port_name p.network p.address)
port_finding number p (Some s) =
    found.Port number (port_name p.network p.address) (sizes_of s) (table_fate p s)

-- the configured ports in order, numbered on from this number
abbrev pub port_findings : ℕ → List ConfiguredPort → List SavedPort → List TakeoverFinding
port_findings number [] saved = []
port_findings number (p ∷ ports) saved =
    port_finding number p (find (is_port p) saved) ∷ port_findings (number + 1) ports saved

abbrev pub is_same_port : SavedPort → SavedPort → Bool
is_same_port a b = nat_eq a.network b.network && same_address a.address b.address

-- why nothing is taken over of a port, which has these before it in the state
abbrev pub port_absence : List ConfiguredPort → List SavedPort → SavedPort → Option Absence
port_absence ports before s =
    absence_of (list_any (λ p. is_port p s) ports) (list_any (is_same_port s) before)

abbrev pub lost_port : List ConfiguredPort → List SavedPort → SavedPort → List TakeoverFinding
lost_port ports before s =
    option_map_or
    (λ absence. found.LostPort (port_name s.network s.address) (sizes_of s) absence ∷ [])
    (port_absence ports before s) []

-- the saved ports of which nothing is taken over, in order, of all those after so many
abbrev pub lost_ports : List ConfiguredPort → List SavedPort → ℕ → List SavedPort → List TakeoverFinding
lost_ports ports all place [] = []
lost_ports ports all place (s ∷ saved) =
    lost_port ports (take place all) s ++ lost_ports ports all (place + 1) saved

-- how many foreign devices were saved of a port
abbrev pub device_count : Option SavedPort → ℕ
device_count None = 0
device_count (Some s) = length s.devices

-- how many a port takes over of those
abbrev pub devices_of : ConfiguredPort → Option SavedPort → ℕ
devices_of p s = if is_some p.bbmd then 0 else device_count s

-- how many foreign devices are taken over
abbrev pub devices_kept : List ConfiguredPort → List SavedPort → ℕ
devices_kept ports saved = sum_by (λ p. devices_of p (find (is_port p) saved)) ports

-- ---- routes

-- the learned routes of a gateway of this configuration once it has taken over those of the state
abbrev pub routes_kept : Configuration → Saved → Routed
routes_kept c s = (learned_by (first_table c) (routes_carried c.ports s)).learned

-- the network is that of a port or of the device
abbrev pub is_own : Configuration → ℕ → Bool
is_own c network = list_any (λ p. nat_eq network p.network) c.ports || nat_eq network c.device.network

abbrev pub is_routed : Configuration → ℕ → Bool
is_routed c network = list_any (λ r. nat_eq network r.network) c.routes

-- why a network has no learned route though the port of one that was saved is there
abbrev pub refusal : Configuration → ℕ → RouteFate
refusal c network =
    if is_own c network then routes.Own else if is_routed c network then routes.Configured else routes.Full

abbrev pub is_same_route : Route → Route → Bool
is_same_route a b = nat_eq a.port b.port && same_address a.next b.next

-- a route is the one that is kept, or another to its network is
abbrev pub fate_beside : Route → ℕ × Route → RouteFate
fate_beside route kept = if is_same_route kept.1 route then routes.TakenOver else routes.Replaced

-- a route by a port that is there, of the routes that are kept
abbrev pub route_fate : Configuration → Routed → ℕ × Route → RouteFate
route_fate c kept route =
    option_map_or (fate_beside route.1) (find (λ e. nat_eq route.0 e.0) kept) (refusal c route.0)

-- a route that was saved, which is by this one now or by no port that is there
abbrev pub route_finding : Configuration → Routed → ℕ × Route → Option (ℕ × Route) → RouteFinding
route_finding c kept saved None = record {
  network = saved.0;
  port = None;
  next = saved.1.next;
  fate = routes.NoPort;
}
route_finding c kept saved (Some route) = record {
  network = saved.0;
  port = Some route.1.port;
  next = saved.1.next;
  fate = route_fate c kept route;
}

abbrev pub finding_of_route : Configuration → List SavedPort → Routed → ℕ × Route → TakeoverFinding
finding_of_route c ports kept saved =
    found.Route (route_finding c kept saved (route_from c.ports ports saved))

-- ---- objects

abbrev pub object_name : Object → ObjectName
object_name object = record { kind = object.kind; instance = object.instance }

abbrev pub value_finding : ObjectName → HeldPlace → PropertyValue → ValueFate → TakeoverFinding
value_finding object held value fate =
    found.Value (record { object = object; held = held; value = value; fate = fate })

abbrev pub value_fate : Details → PropertyValue → ValueFate
value_fate details value = if fits details value then values.TakenOver else values.OutOfRange

abbrev pub slot_finding : ObjectName → Details → ℕ → Option PropertyValue → List TakeoverFinding
slot_finding object details priority None = []
slot_finding object details priority (Some value) =
    value_finding object (Slot priority) value (value_fate details value) ∷ []

-- the slots that aren't empty, of which the first has this priority
abbrev pub slot_findings : ObjectName → Details → ℕ → List (Option PropertyValue) → List TakeoverFinding
slot_findings object details priority [] = []
slot_findings object details priority (slot ∷ slots) =
    slot_finding object details priority slot ++ slot_findings object details (priority + 1) slots

-- a default that was written, as it isn't the one that was configured
abbrev pub is_written : SavedObject → Bool
is_written s = not (same_value s.slots.default s.configured)

-- the fate of a default, if this one is configured now
abbrev pub default_fate_by : PropertyValue → Details → SavedObject → ValueFate
default_fate_by configured details s =
    if same_value s.slots.default configured then values.TakenOver
    else if same_value s.configured configured then value_fate details s.slots.default else values.OtherDefault

abbrev pub default_fate : ConfiguredObject → SavedObject → ValueFate
default_fate object s = default_fate_by (default_of object.value) (details_of object.value) s

abbrev pub default_finding : ConfiguredObject → SavedObject → List TakeoverFinding
default_finding object s =
    if is_written s
    then value_finding (object_name (id_of object)) Default s.slots.default (default_fate object s) ∷ []
    else []

-- a configured object, which was saved or not
abbrev pub object_finding : ConfiguredObject → Option SavedObject → List TakeoverFinding
object_finding object None = found.NewObject (object_name (id_of object)) ∷ []
object_finding object (Some s) =
    slot_findings (object_name (id_of object)) (details_of object.value) 1 s.slots.slots ++ default_finding object s

abbrev pub object_findings : List SavedObject → ConfiguredObject → List TakeoverFinding
object_findings saved object = object_finding object (find (is_object object) saved)

abbrev pub is_same_object : SavedObject → SavedObject → Bool
is_same_object a b = same_object a.object b.object

-- why nothing is taken over of an object, which has these before it in the state
abbrev pub object_absence : List ConfiguredObject → List SavedObject → SavedObject → Option Absence
object_absence objects before s =
    absence_of (list_any (λ object. is_object object s) objects) (list_any (is_same_object s) before)

abbrev pub lost_object : List ConfiguredObject → List SavedObject → SavedObject → List TakeoverFinding
lost_object objects before s =
    option_map_or
    (λ absence.
    found.LostObject (object_name s.object) (count_by is_some s.slots.slots) (is_written s) absence ∷ [])
    (object_absence objects before s) []

-- the saved objects of which nothing is taken over, in order, of all those after so many
abbrev pub lost_objects : List ConfiguredObject → List SavedObject → ℕ → List SavedObject → List TakeoverFinding
lost_objects objects all place [] = []
lost_objects objects all place (s ∷ saved) =
    lost_object objects (take place all) s ++ lost_objects objects all (place + 1) saved

-- ---- all

-- the ports of the configuration, then those of the state that it hasn't; the routes; the objects of the configuration,
-- then those of the state that it hasn't
abbrev pub ports_found : Configuration → Saved → List TakeoverFinding
ports_found c s = port_findings 1 c.ports s.ports ++ lost_ports c.ports s.ports 0 s.ports

abbrev pub objects_found : Configuration → Saved → List TakeoverFinding
objects_found c s =
    flat_map (object_findings s.objects) c.objects ++ lost_objects c.objects s.objects 0 s.objects

abbrev pub findings_with : Configuration → Saved → Routed → List TakeoverFinding
findings_with c s kept =
    ports_found c s ++ (map (finding_of_route c s.ports kept) s.routes ++ objects_found c s)

abbrev pub findings : Configuration → Saved → List TakeoverFinding
findings c s = findings_with c s (routes_kept c s)

-- what is found, and how many foreign devices and routes are kept
pub record TakeOver : Type 0 where
  pub findings : List TakeoverFinding
  pub devices : ℕ
  pub routes : ℕ

abbrev pub take_over : Configuration → Saved → TakeOver
take_over c s = record {
  findings = findings c s;
  devices = devices_kept c.ports s.ports;
  routes = length (routes_kept c s);
}
