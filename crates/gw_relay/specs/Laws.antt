-- What the definitions come to, in plain words.
use Rattle.std.specs.Prelude.{◌≡◌, ℕ, Bool, true, false, ◌&&◌, ◌==◌, List, [], ◌∷◌, ◌++◌, map, slice_index}
use Rattle.std.specs.Prelude.{Some, None}
use Rattle.std.specs.List.{AllByRecursion, list_any}
use Rattle.std.specs.Option.{option_map}
use Rattle.gw_addr.specs.declared.bip.BipAddr.{BipAddr}
use Rattle.gw_addr.specs.declared.entry.BdtEntry.{BdtEntry}
use Rattle.gw_addr.specs.declared.station.Source.{Source}
use Rattle.gw_addr.specs.Entry.{IsBdtEntry}
use Rattle.gw_tables.specs.bdt_fdt.Peers.{all_ones, is_of, peers}
use Rattle.gw_tables.specs.bdt_fdt.Registrations.{same}
use Rattle.gw_frames.specs.bvll.Bvll.{Message as Frame}
use Rattle.gw_frames.specs.bvll.Bvll.{octet_of}
use Rattle.gw_frames.specs.declared.bvll.function.Function.TheVariants.{OriginalUnicast}
use Rattle.gw_configuration.specs.declared.port.Port.{Port as ConfiguredPort}
use Rattle.gw_frames.specs.npdu.Npdu.{Address}
use Rattle.gw_rules.specs.Format.{key_in, names_stations}
use Rattle.gw_rules.specs.declared.format.Format.{Format}
use Rattle.gw_rules.specs.declared.operation.Operation.TheVariants.{Claim, Enter, Learn, Read}
use Rattle.gw_rules.specs.declared.rule.Rule.{Rule}
use Rattle.gw_rules.specs.Allowed.{NoChangeAllowed, NoneAllowed}
use Rattle.gw_rules.specs.Ask.{Ask, IsFor, IsFrom}
use Rattle.gw_relay.specs.Asks.{bound_for, link_asks}
use Rattle.gw_relay.specs.Cast.{cast_asks, cast_response, devices_but, directed}
use Rattle.gw_relay.specs.Claim.{local_source}
use Rattle.gw_relay.specs.Entry.{admits, claim_asks, comes_by_route, enter_asks, enters, entry_asks}
use Rattle.gw_relay.specs.FormatTwo.{cast_response_before, link_response_before, manage_response_before}
use Rattle.gw_relay.specs.FormatTwo.{route_response_before}
use Rattle.gw_relay.specs.History.{Acts, acts_after, acts_later, initial_acts, ports_from, AreStatesAfter}
use Rattle.gw_relay.specs.Initial.{port_states_from}
use Rattle.gw_relay.specs.Link.{link_change, link_response}
use Rattle.gw_relay.specs.Manage.{manage_asks, manage_change, manage_response}
use Rattle.gw_relay.specs.Message.{Message}
use Rattle.gw_relay.specs.Route.{reject, route_asks, route_response, route_sends}
use Rattle.gw_relay.specs.Sends.{Sending}
use Rattle.gw_relay.specs.State.{Commit, Relay, is_manager, port_later, ports_after, moved}
use Rattle.gw_relay.specs.Stations.{belongs}
use Rattle.gw_relay.specs.Steps.{unicast}
use Rattle.gw_relay.specs.declared.change.Change.{Change}
use Rattle.gw_relay.specs.declared.port.PortState.{PortState}
use Rattle.gw_relay.specs.declared.port.Port.{Port}

-- Links as they are configured are those after no acts.
abbrev pub ConfiguredLinksStand : Type 0
ConfiguredLinksStand = (number : ℕ) (ports : List ConfiguredPort) →
    AreStatesAfter (port_states_from number ports) (ports_from number ports) (map initial_acts ports)

-- A change extends every history: states after some acts become those after the acts with it.
abbrev pub ChangesExtendHistories : Type 0
ChangesExtendHistories = (change : Change) (states : List PortState) (ports : List Port) (acts : List Acts) →
    AreStatesAfter states ports acts → AreStatesAfter (ports_after change states) ports (acts_after change acts)

-- So does a tick.
abbrev pub TicksExtendHistories : Type 0
TicksExtendHistories = (states : List PortState) (ports : List Port) (acts : List Acts) →
    AreStatesAfter states ports acts → AreStatesAfter (map port_later states) ports (map acts_later acts)

-- Whoever sent a Distribute-Broadcast-To-Network is not among the foreign devices that it goes to.
abbrev pub SenderIsLeftOut : Type 0
SenderIsLeftOut = (from : BipAddr) (state : PortState) → list_any (same from) (devices_but from state) ≡ false

-- A mask of all ones sends to the broadcast manager itself.
abbrev pub AllOnesReachTheManager : Type 0
AllOnesReachTheManager = (entry : BdtEntry) → IsBdtEntry entry → entry.mask ≡ all_ones →
    directed entry ≡ entry.address

-- The own entry is not among the peers.
abbrev pub OwnEntryIsLeftOut : Type 0
OwnEntryIsLeftOut = (own : BipAddr) (entries : List BdtEntry) → list_any (is_of own) (peers own entries) ≡ false

-- ---- what may change

-- No table of a port changes if no ask of the frame that would change one is allowed.
abbrev pub TablesAreKept : Type 0
TablesAreKept =
    (rules : List Rule) (format : Format) (on : PortState) (from : BipAddr) (frame : Frame) →
    NoChangeAllowed rules (link_asks format on.port from frame) → link_change rules format on from frame ≡ None

-- An ask about a table is for no property.
abbrev pub TableAsksReadNothing : Type 0
TableAsksReadNothing =
    (format : Format) (port : Port) (from : BipAddr) (frame : Frame) →
    AllByRecursion (λ ask. IsFor Read ask → ⊥) (link_asks format port from frame)

-- Nothing is learned if no ask of the message to learn is allowed.
abbrev pub RoutesAreKept : Type 0
RoutesAreKept =
    (rules : List Rule) (relay : Relay) (m : Message) →
    NoneAllowed (IsFor Learn) rules (manage_asks relay m) →
    moved (option_map Commit (manage_change rules relay m)) relay ≡ relay

-- ---- whose asks

-- each ask is of this source, whose key is that of the format
abbrev pub AreFrom : Format → Source → List Ask → Type 0
AreFrom format source asks = AllByRecursion (IsFrom source.net (key_in format source.mac)) asks

-- Every ask of a broadcast, of routing and of a network layer message is of the source that the message claims.
abbrev pub BroadcastsCarryTheirClaim : Type 0
BroadcastsCarryTheirClaim = (format : Format) (m : Message) → AreFrom format m.claim (cast_asks format m)

abbrev pub RoutingCarriesTheClaim : Type 0
RoutingCarriesTheClaim = (relay : Relay) (m : Message) → AreFrom relay.format m.claim (route_asks relay m)

abbrev pub NetworkMessagesCarryTheirClaim : Type 0
NetworkMessagesCarryTheirClaim = (relay : Relay) (m : Message) → AreFrom relay.format m.claim (manage_asks relay m)

-- An ask to enter is of the link source, as a node of the port's network; and an ask to claim is of the claim.
abbrev pub EnteringCarriesTheLinkSource : Type 0
EnteringCarriesTheLinkSource =
    (format : Format) (m : Message) → AreFrom format (local_source m.here.port.network m.link) (enter_asks format m)

abbrev pub ClaimingCarriesTheClaim : Type 0
ClaimingCarriesTheClaim = (relay : Relay) (m : Message) → AreFrom relay.format m.claim (claim_asks relay m)

-- ---- who is admitted

-- A station that doesn't belong to the port isn't admitted if no ask to enter is allowed.
abbrev pub StrangersAreKeptOut : Type 0
StrangersAreKeptOut =
    (rules : List Rule) (relay : Relay) (m : Message) → names_stations relay.format ≡ true → enters m.frame ≡ true →
    belongs relay.format m.here m.link ≡ false → NoneAllowed (IsFor Enter) rules (entry_asks rules relay m) →
    admits rules relay m ≡ false

-- A message of a source that doesn't come by its route isn't admitted if no ask to claim is allowed.
abbrev pub ForgedClaimsAreKeptOut : Type 0
ForgedClaimsAreKeptOut =
    (rules : List Rule) (relay : Relay) (m : Message) (source : Address) → names_stations relay.format ≡ true →
    m.npdu.source ≡ Some source → comes_by_route relay m source ≡ false →
    NoneAllowed (IsFor Claim) rules (entry_asks rules relay m) → admits rules relay m ≡ false

-- Nothing is asked of a station that belongs to the port and speaks for itself.
abbrev pub OwnStationsEnterUnasked : Type 0
OwnStationsEnterUnasked =
    (rules : List Rule) (relay : Relay) (m : Message) → belongs relay.format m.here m.link ≡ true →
    m.npdu.source ≡ None → entry_asks rules relay m ≡ []

-- Nor of a router of the port that speaks for a network that lies behind it.
abbrev pub RoutersEnterUnasked : Type 0
RoutersEnterUnasked =
    (rules : List Rule) (relay : Relay) (m : Message) (source : Address) → belongs relay.format m.here m.link ≡ true →
    m.npdu.source ≡ Some source → comes_by_route relay m source ≡ true → entry_asks rules relay m ≡ []

-- What is asked before a message is taken reads nothing.
abbrev pub EntryAsksReadNothing : Type 0
EntryAsksReadNothing =
    (rules : List Rule) (relay : Relay) (m : Message) →
    AllByRecursion (λ ask. IsFor Read ask → ⊥) (entry_asks rules relay m)

-- ---- where a message is delivered

-- a datagram that is an Original-Unicast-NPDU
abbrev pub is_unicast : Sending → Bool
is_unicast s = slice_index s.octets 1 == octet_of OriginalUnicast

-- it goes to an address that belongs to the port on which it is sent
abbrev pub goes_inside : Relay → Sending → Bool
goes_inside relay s =
    list_any (λ state. state.port.number == s.port && belongs relay.format state s.to) relay.ports

-- it goes to a router of the table, by the port of its route
abbrev pub goes_to_router : Relay → Sending → Bool
goes_to_router relay s =
    list_any (λ routed. routed.1.port == s.port && same routed.1.next s.to)
    (relay.routes.configured ++ relay.routes.learned)

-- where routing sends a unicast: inside, to a router, or as a Reject-Message-To-Network back to the link source
pub data Reaches (relay : Relay) (m : Message) (s : Sending) : Type 0 where
  Inside : goes_inside relay s ≡ true → Reaches relay m s
  ToRouter : goes_to_router relay s ≡ true → Reaches relay m s
  Rejected : (network : ℕ) → bound_for m.npdu ≡ Some network →
      unicast m.here.port.number m.link (reject network m.npdu) ≡ s ∷ [] → Reaches relay m s

abbrev pub NothingIsDeliveredOutside : Type 0
NothingIsDeliveredOutside =
    (rules : List Rule) (relay : Relay) (m : Message) →
    AllByRecursion (λ s. is_unicast s ≡ true → Reaches relay m s) (route_sends rules relay m)

-- ---- the first two formats

-- Where the format names no stations, and so no port has another broadcast manager beside it and nothing is announced,
-- every part is as it was before there was such a format, and nothing is asked before a message is taken.
abbrev pub TablesAreAsBefore : Type 0
TablesAreAsBefore =
    (rules : List Rule) (format : Format) (on : PortState) (from : BipAddr) (frame : Frame) →
    names_stations format ≡ false → is_manager on.port ≡ true →
    link_response rules format on from frame ≡ link_response_before rules on from frame

abbrev pub BroadcastsAreAsBefore : Type 0
BroadcastsAreAsBefore =
    (rules : List Rule) (format : Format) (m : Message) → names_stations format ≡ false →
    is_manager m.here.port ≡ true →
    cast_response rules format m ≡ cast_response_before rules m

abbrev pub RoutingIsAsBefore : Type 0
RoutingIsAsBefore =
    (rules : List Rule) (relay : Relay) (m : Message) → names_stations relay.format ≡ false →
    route_response rules relay m ≡ route_response_before rules relay m

abbrev pub NetworkMessagesAreAsBefore : Type 0
NetworkMessagesAreAsBefore =
    (rules : List Rule) (relay : Relay) (m : Message) → names_stations relay.format ≡ false →
    relay.announce ≡ false →
    manage_response rules relay m ≡ manage_response_before rules relay m

abbrev pub EntryIsUnasked : Type 0
EntryIsUnasked =
    (rules : List Rule) (relay : Relay) (m : Message) → names_stations relay.format ≡ false →
    entry_asks rules relay m ≡ []
