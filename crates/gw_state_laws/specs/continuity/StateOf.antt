-- Which states a gateway of a configuration can be in.
use Rattle.std.specs.Prelude.{◌≡◌, ℕ, ◌+◌, ◌≤◌, ⊤, true, IsTrue, IsFalse, nat_eq, List, [], ◌∷◌, get_or, length, map, IfSome, None}
use Rattle.std.specs.List.{AllByRecursion, IsDistinct}
use Rattle.std.specs.Map.{keys_of}
use Rattle.gw_configuration.specs.Configuration.{Configuration}
use Rattle.gw_configuration.specs.Duplicates.{has_duplicates}
use Rattle.gw_configuration.specs.declared.object.Object.{Object as ConfiguredObject}
use Rattle.gw_configuration.specs.declared.port.Port.{Port as ConfiguredPort}
use Rattle.gw_objects.specs.Objects.{Slots, database_of, default_of, details_of}
use Rattle.gw_relay.specs.Initial.{direct_of, port_of, routed_of}
use Rattle.gw_relay.specs.Neighbours.{are_bare}
use Rattle.gw_relay.specs.declared.port.PortState.{PortState}
use Rattle.gw_tables.specs.routes.Table.{Routed, Table, is_fixed, routes_held}
use Rattle.gw_core.specs.State.{State}
use Rattle.gw_objects.specs.Values.{fits}

-- ---- what each configuration keeps

-- the default of an object is in its range
abbrev pub IsDefaultInRange : ConfiguredObject → Type 0
IsDefaultInRange object = IsTrue (fits (details_of object.value) (default_of object.value))

-- What is so of each accepted configuration: nothing appears twice that may appear only once, there are at most
-- 512 routes, and each default is in the range of its object.
pub record IsAccepted (c : Configuration) : Type 0 where
  pub once : IsFalse (has_duplicates c)
  pub few : length c.routes ≤ 512
  pub defaults : AllByRecursion IsDefaultInRange c.objects

-- ---- what each state keeps

-- these are the states of the ports, whose numbers are counted on from one, and their tables have seen so many ticks
abbrev pub AreStatesOf : (since number : ℕ) → List ConfiguredPort → List PortState → Type 0
AreStatesOf since number [] [] = ⊤
AreStatesOf since number (p ∷ ports) (state ∷ states) =
    (state.port ≡ port_of number p) × (state.stations ≡ p.stations) × (state.fdt.ticks ≡ since)
    × AreStatesOf since (number + 1) ports states
AreStatesOf since number _ _ = ⊥

-- each learned route is by one of so many ports
abbrev pub AreBy : ℕ → Routed → Type 0
AreBy ports routes = AllByRecursion (λ learned. (1 ≤ learned.1.port) × (learned.1.port ≤ ports)) routes

-- A table of routes of so many ports has these direct networks and these configured routes. Its learned routes are by
-- these ports, none is of a network that is direct or configured, none is of the same network as another, and with the
-- configured ones they are at most 512.
pub record IsTableOf (ports : ℕ) (networks : List ℕ) (routes : Routed) (t : Table) : Type 0 where
  pub direct : t.direct ≡ networks
  pub configured : t.configured ≡ routes
  pub by : AreBy ports t.learned
  pub free : AllByRecursion (λ learned. IsFalse (is_fixed t learned.0)) t.learned
  pub once : IsDistinct nat_eq (keys_of t.learned)
  pub few : routes_held t ≤ 512

-- the value of each slot that isn't empty, and the default, are in the range of the object
abbrev pub AreInRange : ConfiguredObject → Slots → Type 0
AreInRange object slots =
    AllByRecursion (λ slot. IfSome slot (λ value. IsTrue (fits (details_of object.value) value))) slots.slots
    × IsTrue (fits (details_of object.value) slots.default)

-- each object has its slots and its default, and they are in its range
abbrev pub AllInRange : List ConfiguredObject → List Slots → Type 0
AllInRange [] [] = ⊤
AllInRange (object ∷ objects) (slots ∷ states) = AreInRange object slots × AllInRange objects states
AllInRange _ _ = ⊥

-- what is so in each state of a gateway of a configuration
pub record IsStateOf (c : Configuration) (w : State) : Type 0 where
  pub format : w.relay.format ≡ c.format
  pub announce : w.relay.announce ≡ c.announce
  pub ports : AreStatesOf w.relay.ticks 1 c.ports w.relay.ports
  -- a port that has another broadcast manager beside it has no peer and no foreign device
  pub bare : are_bare 1 w.relay.ports ≡ true
  pub routes : IsTableOf (length c.ports) (direct_of c) (map routed_of c.routes) w.relay.routes
  pub device : w.device.configured ≡ (database_of c).configured
  pub values : AllInRange c.objects w.device.states
  pub rules : w.rules ≡ c.rules

-- ---- the slots

-- An object has sixteen slots, of which the sixth is empty: nothing commands at priority 6 (clause 19.2.3).
pub record HasItsSlots (slots : Slots) : Type 0 where
  pub sixteen : length slots.slots ≡ 16
  pub sixth : get_or slots.slots 5 None ≡ None

-- so has each of these objects
abbrev pub HaveTheirSlots : List Slots → Type 0
HaveTheirSlots states = AllByRecursion HasItsSlots states
