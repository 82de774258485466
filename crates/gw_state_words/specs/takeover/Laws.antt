-- What the lines say is what a gateway takes over.
use Rattle.std.specs.Prelude.{◌≡◌, ◌↔◌, ℕ, ◌+◌, ◌≤◌, Bool, true, false, not, nat_eq, ◌&&◌, if◌then◌else◌, List, []}
use Rattle.std.specs.Prelude.{◌∷◌, ◌++◌, length}
use Rattle.std.specs.Prelude.{map, find, filter_map, is_some, Option, Some, None}
use Rattle.std.specs.List.{list_any, sum_by}
use Rattle.gw_addr.specs.declared.entry.BdtEntry.{BdtEntry}
use Rattle.gw_tables.specs.bdt_fdt.Kept.{row_of}
use Rattle.gw_tables.specs.declared.bdt_fdt.kept.KeptDevice.{KeptDevice}
use Rattle.gw_tables.specs.declared.bdt_fdt.tables.PortTables.{PortTables}
use Rattle.gw_configuration.specs.Configuration.{Configuration}
use Rattle.gw_configuration.specs.declared.object.Object.{Object as ConfiguredObject}
use Rattle.gw_configuration.specs.declared.port.Port.{Port as ConfiguredPort}
use Rattle.gw_objects.specs.declared.value.PropertyValue.{PropertyValue}
use Rattle.gw_objects.specs.Objects.{Slots, default_of}
use Rattle.gw_tables.specs.declared.routes.route.Route.{Route}
use Rattle.gw_tables.specs.routes.Table.{learned_by, routes_held}
use Rattle.gw_relay.specs.Initial.{first_table}
use Rattle.gw_state.specs.Carried.{are_same, default_from, is_object, is_port, routes_carried, slots_from, states_carried}
use Rattle.gw_state.specs.Carried.{tables_carried, tables_from}
use Rattle.gw_state.specs.declared.port.SavedPort.{SavedPort}
use Rattle.gw_state.specs.Saved.{Saved, SavedObject, id_of}
use Rattle.gw_state_words.specs.declared.takeover.finding.TakeoverFinding.{TakeoverFinding}
use Rattle.gw_state_words.specs.declared.takeover.finding.TakeoverFinding.TheVariants as found
use Rattle.gw_state_words.specs.declared.takeover.finding.HeldPlace.{HeldPlace}
use Rattle.gw_state_words.specs.declared.takeover.finding.HeldPlace.TheVariants.{Slot, Default}
use Rattle.gw_state_words.specs.declared.takeover.finding.ObjectName.{ObjectName}
use Rattle.gw_state_words.specs.declared.takeover.finding.RouteFate.TheVariants as routes
use Rattle.gw_state_words.specs.declared.takeover.finding.TableFate.{TableFate}
use Rattle.gw_state_words.specs.declared.takeover.finding.TableFate.TheVariants as tables
use Rattle.gw_state_words.specs.declared.takeover.finding.ValueFate.{ValueFate}
use Rattle.gw_state_words.specs.declared.takeover.finding.ValueFate.TheVariants as values
use Rattle.gw_state_words.specs.takeover.Findings.{default_fate, devices_kept, findings, is_written}
use Rattle.gw_state_words.specs.takeover.Findings.{object_absence, object_finding, object_name, port_absence, port_finding}
use Rattle.gw_state_words.specs.takeover.Findings.{route_fate, routes_kept, sizes_of}

-- ---- ports

-- the table of peers that a port has is what is said of it
abbrev pub IsTableAsSaid : TableFate → ConfiguredPort → SavedPort → List BdtEntry → Type 0
IsTableAsSaid tables.AsConfigured p s entries = are_same entries p.peers ≡ true
IsTableAsSaid tables.TakenOver p s entries = (entries ≡ s.entries) × (are_same s.entries p.peers ≡ false)
IsTableAsSaid tables.OtherPeers p s entries = (entries ≡ p.peers) × (are_same s.entries p.peers ≡ false)
IsTableAsSaid tables.OtherManager p s entries = entries ≡ []

-- the foreign devices of a saved port that a port has by what is said of it: none where another broadcast manager is beside it
abbrev pub devices_by : TableFate → SavedPort → List KeptDevice
devices_by tables.AsConfigured s = s.devices
devices_by tables.TakenOver s = s.devices
devices_by tables.OtherPeers s = s.devices
devices_by tables.OtherManager s = []

-- the table of peers with which a port begins: those that are configured, and none where another broadcast manager is beside it
abbrev pub peers_at_first : ConfiguredPort → List BdtEntry
peers_at_first p = if is_some p.bbmd then [] else p.peers

-- the tables that a port has are what is said of it
abbrev pub AreTablesAsSaid : TakeoverFinding → ConfiguredPort → Option SavedPort → PortTables → Type 0
AreTablesAsSaid (found.Port number port sizes table) p (Some s) t =
    (sizes ≡ sizes_of s) × (t.fdt.rows ≡ map row_of (devices_by table s)) × IsTableAsSaid table p s t.bdt
AreTablesAsSaid (found.NewPort number port) p None t = (t.fdt.rows ≡ []) × (t.bdt ≡ peers_at_first p)
AreTablesAsSaid _ _ _ _ = ⊥

-- What is said of a configured port is so of the tables that it takes over.
abbrev pub PortsAreAsSaid : Type 0
PortsAreAsSaid =
    (ticks number : ℕ) (p : ConfiguredPort) (s : Option SavedPort)
    → AreTablesAsSaid (port_finding number p s) p s (tables_from ticks p s)

-- it is the first of a list that passes, which has these before it
abbrev pub is_first : {A : Type 0} → (A → Bool) → List A → A → Bool
is_first test before s = test s && not (list_any test before)

-- The first that passes is the one that is found.
abbrev pub FirstsAreFound : Type 0 → Type 0
FirstsAreFound A =
    (test : A → Bool) (before after : List A) (s : A)
    → is_first test before s ≡ true → find test (before ++ s ∷ after) ≡ Some s

-- A saved port, which has these before it in the state, is said to be dropped exactly if there is no configured port of
-- which it is the first saved one, and which so says what becomes of its tables.
abbrev pub LostPortsAreLost : Type 0
LostPortsAreLost =
    (ports : List ConfiguredPort) (before : List SavedPort) (s : SavedPort)
    → is_some (port_absence ports before s) ≡ not (list_any (λ p. is_first (is_port p) before s) ports)

-- So many foreign devices are said to be kept as are in the tables that are taken over.
abbrev pub DevicesAreCounted : Type 0
DevicesAreCounted =
    (ticks : ℕ) (ports : List ConfiguredPort) (saved : List SavedPort)
    → devices_kept ports saved ≡ sum_by (λ t. length t.fdt.rows) (tables_carried ticks ports saved)

-- ---- routes

-- A route by a port that is there is said to be taken over exactly if it is the one that is kept to its network.
abbrev pub RoutesAreAsSaid : Type 0
RoutesAreAsSaid =
    (c : Configuration) (s : Saved) (route : ℕ × Route)
    → route_fate c (routes_kept c s) route ≡ routes.TakenOver
    ↔ (find (λ e. nat_eq route.0 e.0) (routes_kept c s) ≡ Some route)

-- If a route by a port that is there is said to find no room, 512 networks have a route.
abbrev pub FullTablesAreFull : Type 0
FullTablesAreFull =
    (c : Configuration) (s : Saved) (route : ℕ × Route)
    → list_any (λ e. nat_eq route.0 e.0) (routes_carried c.ports s) ≡ true
    → route_fate c (routes_kept c s) route ≡ routes.Full
    → 512 ≤ routes_held (learned_by (first_table c) (routes_carried c.ports s))

-- ---- objects

-- a value in the slot of an object, by its priority
abbrev pub SlotValue : Type 0
SlotValue = ObjectName × ℕ × PropertyValue

abbrev pub of_slot : ObjectName → HeldPlace → PropertyValue → Option SlotValue
of_slot object (Slot priority) value = Some (object, priority, value)
of_slot object Default value = None

abbrev pub kept_of : ObjectName → HeldPlace → PropertyValue → ValueFate → Option SlotValue
kept_of object held value values.TakenOver = of_slot object held value
kept_of object held value values.OutOfRange = None
kept_of object held value values.OtherDefault = None

abbrev pub dropped_of : ObjectName → HeldPlace → PropertyValue → ValueFate → Option SlotValue
dropped_of object held value values.TakenOver = None
dropped_of object held value values.OutOfRange = of_slot object held value
dropped_of object held value values.OtherDefault = of_slot object held value

-- the value of a slot that is said to be taken over, or to be dropped
abbrev pub said_kept : TakeoverFinding → Option SlotValue
said_kept (found.Value v) = kept_of v.object v.held v.value v.fate
said_kept _ = None

abbrev pub said_dropped : TakeoverFinding → Option SlotValue
said_dropped (found.Value v) = dropped_of v.object v.held v.value v.fate
said_dropped _ = None

-- the values of slots that aren't empty, of which the first has this priority
abbrev pub held_in : ObjectName → ℕ → List (Option PropertyValue) → List SlotValue
held_in object priority [] = []
held_in object priority (None ∷ slots) = held_in object (priority + 1) slots
held_in object priority (Some value ∷ slots) = (object, priority, value) ∷ held_in object (priority + 1) slots

-- the values of slots that are empty in the second list
abbrev pub lost_in : ObjectName → ℕ → List (Option PropertyValue) → List (Option PropertyValue) → List SlotValue
lost_in object priority [] after = []
lost_in object priority (slot ∷ slots) [] = []
lost_in object priority (Some value ∷ slots) (None ∷ after) =
    (object, priority, value) ∷ lost_in object (priority + 1) slots after
lost_in object priority (None ∷ slots) (None ∷ after) = lost_in object (priority + 1) slots after
lost_in object priority (slot ∷ slots) (Some value ∷ after) = lost_in object (priority + 1) slots after

abbrev pub name_of : ConfiguredObject → ObjectName
name_of object = object_name (id_of object)

-- the values in the slots of objects, which have the same order
abbrev pub held_by : List ConfiguredObject → List Slots → List SlotValue
held_by [] states = []
held_by (object ∷ objects) [] = []
held_by (object ∷ objects) (slots ∷ states) = held_in (name_of object) 1 slots.slots ++ held_by objects states

-- The values of slots that are said to be taken over are those in the slots that the gateway has.
abbrev pub SlotsAreAsSaid : Type 0
SlotsAreAsSaid =
    (c : Configuration) (s : Saved)
    → filter_map said_kept (findings c s) ≡ held_by c.objects (states_carried c.objects s.objects)

-- The values of slots of a configured object that are said to be dropped are those whose slots are empty then.
abbrev pub DroppedSlotsAreEmpty : Type 0
DroppedSlotsAreEmpty =
    (object : ConfiguredObject) (s : SavedObject)
    → filter_map said_dropped (object_finding object (Some s))
    ≡ lost_in (name_of object) 1 s.slots.slots (slots_from object (Some s)).slots

-- A default that was written is said to be taken over exactly if the object has it; and if none was written, the object
-- has the configured one.
abbrev pub DefaultsAreAsSaid : Type 0
DefaultsAreAsSaid =
    (object : ConfiguredObject) (s : SavedObject)
    → (default_fate object s ≡ values.TakenOver ↔ default_from object s ≡ s.slots.default)
    × (is_written s ≡ false → default_from object s ≡ default_of object.value)

-- A saved object, which has these before it in the state, is said to be dropped exactly if there is no configured object of
-- which it is the first saved one, and which so takes its values over.
abbrev pub LostObjectsAreLost : Type 0
LostObjectsAreLost =
    (objects : List ConfiguredObject) (before : List SavedObject) (s : SavedObject)
    → is_some (object_absence objects before s)
    ≡ not (list_any (λ object. is_first (is_object object) before s) objects)
