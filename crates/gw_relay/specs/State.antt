-- What a relay keeps between two events: the format of the policy, whether networks are announced, each port with its
-- two tables, the routes, and the ticks.
use Rattle.std.specs.Prelude.{ℕ, zero, suc, ◌+◌, ◌-◌, ◌==◌, Bool, true, false, if◌then◌else◌, List, [], ◌∷◌, map}
use Rattle.std.specs.Prelude.{slice_get, not, is_some, Option, Some, None}
use Rattle.std.specs.Option.{option_map_or}
use Rattle.gw_addr.specs.declared.bip.BipAddr.{BipAddr}
use Rattle.gw_tables.specs.bdt_fdt.Registrations.{Registrations, contains, has_room, with_registration, with_tick, without}
use Rattle.gw_tables.specs.routes.Table.{Table, route_by, with_each}
use Rattle.gw_rules.specs.declared.format.Format.{Format}
use Rattle.gw_relay.specs.declared.change.Change.{Change}
use Rattle.gw_relay.specs.declared.change.Change.TheVariants.{Entries, Registration, Deletion, Learnings}
use Rattle.gw_relay.specs.declared.port.Port.{Port}
use Rattle.gw_relay.specs.declared.port.PortState.{PortState}

pub record Relay : Type 0 where
  pub format : Format
  pub announce : Bool
  pub ports : List PortState
  pub routes : Table
  pub ticks : ℕ

-- a port is the broadcast manager of its subnet: no other one is beside it
abbrev pub is_manager : Port → Bool
is_manager port = not (is_some port.bbmd)

-- the state of the port of a number, counted from 1
abbrev pub port_at : List PortState → ℕ → Option PortState
port_at ports number = if number == 0 then None else slice_get ports (number - 1)

-- what the state of a port gives, and what there is if there is no such port
abbrev pub at_port : {A : Type 0} → A → (PortState → A) → List PortState → ℕ → A
at_port none given ports number = option_map_or given (port_at ports number) none

-- ---- as it changes

-- an address registers: if there is no room for it nothing changes
abbrev pub registered : BipAddr → ℕ → Registrations → Registrations
registered address time_to_live t =
    if has_room t address then with_registration t address time_to_live else t

-- an address is deleted: if it isn't registered nothing changes
abbrev pub deleted : BipAddr → Registrations → Registrations
deleted address t = if contains t address then without t address else t

-- a list with the item at a place changed, if it is there
abbrev pub changed_at : {A : Type 0} → ℕ → (A → A) → List A → List A
changed_at place change [] = []
changed_at zero change (x ∷ xs) = change x ∷ xs
changed_at (suc place) change (x ∷ xs) = x ∷ changed_at place change xs

-- a list with the item of a number changed, counted from 1
abbrev pub changed_of : {A : Type 0} → ℕ → (A → A) → List A → List A
changed_of number change xs = if number == 0 then xs else changed_at (number - 1) change xs

-- the ports once a change is made
abbrev pub ports_after : Change → List PortState → List PortState
ports_after (Entries port bdt) = changed_of port (λ state. record state { bdt = bdt })
ports_after (Registration port address time_to_live) =
    changed_of port (λ state. record state { fdt = registered address time_to_live state.fdt })
ports_after (Deletion port address) =
    changed_of port (λ state. record state { fdt = deleted address state.fdt })
ports_after (Learnings port next networks) = λ ports. ports

-- the routes once a change is made: each network is learned by the port and the next router, one
-- after the other, unless it is fixed or the table is full
abbrev pub routes_after : Change → Table → Table
routes_after (Entries port bdt) routes = routes
routes_after (Registration port address time_to_live) routes = routes
routes_after (Deletion port address) routes = routes
routes_after (Learnings port next networks) routes = with_each routes networks (route_by port next)

-- a registration and routes may want room
abbrev pub wants_room : Change → Bool
wants_room (Entries port bdt) = false
wants_room (Registration port address time_to_live) = true
wants_room (Deletion port address) = false
wants_room (Learnings port next networks) = true

-- a relay once a change is made
abbrev pub after : Change → Relay → Relay
after change relay = record relay {
  ports = ports_after change relay.ports;
  routes = routes_after change relay.routes;
}

-- a port one tick later
abbrev pub port_later : PortState → PortState
port_later state = record state { fdt = with_tick state.fdt }

-- a relay one tick later
abbrev pub later : Relay → Relay
later relay = record relay { ports = map port_later relay.ports; ticks = relay.ticks + 1 }

-- what happens to a relay: a change is made, or a second passes
pub data Move : Type 0 where
  Commit : Change → Move
  Tick : Move

-- a relay once a move is made, if there is one
abbrev pub moved : Option Move → Relay → Relay
moved None relay = relay
moved (Some (Commit change)) relay = after change relay
moved (Some Tick) relay = later relay

-- a relay once these moves were made, of which the first is the newest
unfoldable pub moved_by : List Move → Relay → Relay
moved_by [] relay = relay
moved_by (move ∷ moves) relay = moved (Some move) (moved_by moves relay)
