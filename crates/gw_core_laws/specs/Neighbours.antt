-- What the keys `bbmd` and `announce` come to over whole runs.
use Rattle.std.specs.Prelude.{◌≡◌, ◌==◌, ℕ, Bool, true, false, nat_eq, List, [], ◌++◌}
use Rattle.std.specs.List.{list_any}
use Rattle.std.specs.Map.{keys_of}
use Rattle.gw_configuration.specs.Configuration.{Configuration}
use Rattle.gw_configuration.specs.Duplicates.{has_duplicates}
use Rattle.gw_tables.specs.declared.routes.route.Way.{Way}
use Rattle.gw_tables.specs.declared.routes.route.Way.TheVariants as ways
use Rattle.gw_tables.specs.routes.Table.{Table, are_distinct, reachable_from, way}
use Rattle.std.specs.Option.{option_map}
use Rattle.gw_rules.specs.declared.rule.Rule.{Rule}
use Rattle.gw_relay.specs.Initial.{initial}
use Rattle.gw_relay.specs.Manage.{first_learned, is_i_am_router, manage_change, named_networks, onward_sends}
use Rattle.gw_relay.specs.Message.{Message}
use Rattle.gw_relay.specs.State.{Commit, Move, Relay, moved, moved_by}
use Rattle.gw_relay.specs.Neighbours.{are_bare}
use Rattle.gw_relay.specs.Plain.{is_plain}
use Rattle.gw_core.specs.declared.event.Counts.{Counts}
use Rattle.gw_core.specs.Effects.{effects_at}
use Rattle.gw_core.specs.History.{history_after, next, run, state_after}
use Rattle.gw_core.specs.Resumed.{carried}
use Rattle.gw_core.specs.State.{State}
use Rattle.gw_core_laws.specs.FormatTwo.{asked_from}
use Rattle.gw_core_laws.specs.Plain.{plain_asked, plain_effects, plain_left, plain_run}
use Rattle.gw_script.specs.Event.{Event}
use Rattle.gw_state.specs.Saved.{Saved}

-- Where no port has another broadcast manager beside it and nothing is announced, an event does what it did before there
-- were the two keys (Plain.antt).
abbrev pub PlainIsAsBefore : Type 0
PlainIsAsBefore = (w : State) (e : Event) → is_plain w.relay ≡ true → effects_at w e ≡ plain_effects w e

-- Under a configuration without the keys every list of events asks and does what it did before, and leaves the state that
-- it left.
abbrev pub PlainRunsAsBefore : Type 0
PlainRunsAsBefore = (c : Configuration) (k : Counts) (l : List Event) → is_plain (initial c) ≡ true →
    let fresh = state_after c k [] in
    (asked_from fresh l ≡ plain_asked fresh l) × (run c k l ≡ plain_run fresh l)
    × (state_after c k (history_after [] l) ≡ plain_left fresh l)

-- After every history no port with another broadcast manager beside it has a peer or a foreign device.
abbrev pub PortsAreBare : Type 0
PortsAreBare = (c : Configuration) (k : Counts) (h : List Event) → are_bare 1 (state_after c k h).relay.ports ≡ true

-- So it is in a gateway that takes over what was saved, and an event leaves it so.
abbrev pub CarriedPortsAreBare : Type 0
CarriedPortsAreBare = (c : Configuration) (s : Saved) → are_bare 1 (carried c s).relay.ports ≡ true

abbrev pub EventsLeaveThemBare : Type 0
EventsLeaveThemBare = (w : State) (e : Event) → are_bare 1 w.relay.ports ≡ true → are_bare 1 (next w e).relay.ports ≡ true

-- ---- what an announcement names

-- a way leads back by a port: to its own network, or to a router on it
abbrev pub leads_back : ℕ → Way → Bool
leads_back number (ways.Port other) = other == number
leads_back number (ways.Router route) = route.port == number
leads_back number other = false

-- a table has each network once
abbrev pub has_each_once : Table → Bool
has_each_once t = are_distinct (t.direct ++ (keys_of t.configured ++ keys_of t.learned))

-- What lies by a port isn't announced on it (the networks of an announcement are `reachable_from` it).
abbrev pub OwnNetworksAreUnnamed : Type 0
OwnNetworksAreUnnamed =
    (t : Table) (number net : ℕ) → has_each_once t ≡ true → leads_back number (way t net) ≡ true →
    list_any (nat_eq net) (reachable_from t number) ≡ false

-- After every history of a configuration in which no network appears twice the table has each network once.
abbrev pub EachNetworkIsOnce : Type 0
EachNetworkIsOnce = (c : Configuration) (k : Counts) (h : List Event) → has_duplicates c ≡ false →
    has_each_once (state_after c k h).relay.routes ≡ true

-- ---- announcements that come back

-- a relay once what a message may teach it is learned
abbrev pub taught : List Rule → Relay → Message → Relay
taught rules relay m = moved (option_map Commit (manage_change rules relay m)) relay

-- A gateway hears a router, and announces the networks that it learns for the first time; another one hears that, and
-- announces those that it learns for the first time; whenever that comes back to the first, on whichever port and from
-- whomever, and whatever moved it since, it announces nothing: so two gateways, joined by however many networks, stop.
abbrev pub TwoGatewaysStop : Type 0
TwoGatewaysStop =
    (one_rules other_rules : List Rule) (one other : Relay) (heard onward back : Message) (since : List Move) →
    is_i_am_router heard.npdu ≡ true → named_networks onward ≡ first_learned one_rules one heard →
    named_networks back ≡ first_learned other_rules other onward →
    onward_sends one_rules (moved_by since (taught one_rules one heard)) back ≡ []
