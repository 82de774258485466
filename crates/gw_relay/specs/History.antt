-- The state of the ports' tables after a history (Annex J.4, J.5): the entries of the last granted
-- Write-Broadcast-Distribution-Table, or the configured ones; and the foreign devices by their
-- granted registrations and deletions and by the ticks, newest first. And the state of the routes: by the
-- networks that were granted to be learned (clause 6.6).
use Rattle.std.specs.Prelude.{◌≡◌, ℕ, ◌+◌, Bool, if◌then◌else◌, List, [], ◌∷◌, map, Option, Some, None}
use Rattle.gw_addr.specs.declared.entry.BdtEntry.{BdtEntry}
use Rattle.gw_tables.specs.bdt_fdt.History.{Act, Register, Delete, Tick, History, table_after}
use Rattle.gw_tables.specs.bdt_fdt.Registrations.{contains, has_room}
use Rattle.gw_configuration.specs.Subnet.{Subnet}
use Rattle.gw_configuration.specs.declared.port.Port.{Port as ConfiguredPort}
use Rattle.gw_tables.specs.routes.History.{history_with}
use Rattle.gw_tables.specs.routes.History.{History as Learned}
use Rattle.gw_tables.specs.routes.Table.{Table, route_by}
use Rattle.gw_relay.specs.Initial.{first_peers, port_of}
use Rattle.gw_relay.specs.State.{Move, Commit, changed_of}
use Rattle.gw_relay.specs.State.{Tick as Later}
use Rattle.gw_relay.specs.declared.change.Change.{Change}
use Rattle.gw_relay.specs.declared.change.Change.TheVariants.{Entries, Registration, Deletion, Learnings}
use Rattle.gw_relay.specs.declared.port.PortState.{PortState}
use Rattle.gw_relay.specs.declared.port.Port.{Port}

-- what came of a history on a port, whose stations stay as they are configured
pub record Acts : Type 0 where
  pub stations : List Subnet
  pub entries : List BdtEntry
  pub history : History

-- a port after its acts
abbrev pub link_after : Port → Acts → PortState
link_after port acts = record {
  port = port;
  stations = acts.stations;
  bdt = acts.entries;
  fdt = table_after acts.history;
}

-- the ports, each after its acts
abbrev pub all_after : List Port → List Acts → List PortState
all_after [] acts = []
all_after (port ∷ ports) [] = []
all_after (port ∷ ports) (first ∷ acts) = link_after port first ∷ all_after ports acts

-- states are as the acts of their ports leave them
abbrev pub AreStatesAfter : List PortState → List Port → List Acts → Type 0
AreStatesAfter states ports acts = states ≡ all_after ports acts

-- the ports as they are configured, with their numbers counted on from one
abbrev pub ports_from : ℕ → List ConfiguredPort → List Port
ports_from number [] = []
ports_from number (p ∷ ports) = port_of number p ∷ ports_from (number + 1) ports

-- before any event
abbrev pub initial_acts : ConfiguredPort → Acts
initial_acts p = record { stations = p.stations; entries = first_peers p; history = [] }

-- one act more, if it is granted
abbrev pub with_act : Bool → Act → Acts → Acts
with_act granted act acts =
    if granted then record acts { history = act ∷ acts.history } else acts

-- the acts once a change is made
abbrev pub acts_after : Change → List Acts → List Acts
acts_after (Entries port bdt) = changed_of port (λ acts. record acts { entries = bdt })
acts_after (Registration port address time_to_live) =
    changed_of port (λ acts.
    with_act (has_room (table_after acts.history) address) (Register address time_to_live) acts)
acts_after (Deletion port address) =
    changed_of port (λ acts.
    with_act (contains (table_after acts.history) address) (Delete address) acts)
acts_after (Learnings port next networks) = λ acts. acts

-- the acts of a port one tick later
abbrev pub acts_later : Acts → Acts
acts_later acts = record acts { history = Tick ∷ acts.history }

-- the acts once a move is made, if there is one
abbrev pub acts_moved : Option Move → List Acts → List Acts
acts_moved None acts = acts
acts_moved (Some (Commit change)) acts = acts_after change acts
acts_moved (Some Later) acts = map acts_later acts

-- ---- the routes

-- the learnings once a change is made: those before, and those of its networks that the table grants
abbrev pub learned_after : Change → Table → Learned → Learned
learned_after (Entries port bdt) routes h = h
learned_after (Registration port address time_to_live) routes h = h
learned_after (Deletion port address) routes h = h
learned_after (Learnings port next networks) routes h =
    history_with routes networks (route_by port next) h

-- the learnings once a move is made, if there is one
abbrev pub learned_moved : Option Move → Table → Learned → Learned
learned_moved None routes h = h
learned_moved (Some (Commit change)) routes h = learned_after change routes h
learned_moved (Some Later) routes h = h
