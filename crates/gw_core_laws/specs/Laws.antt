-- Laws over the definitions of the headline: what the folds of a history say in plain words.
use Rattle.std.specs.Prelude.{◌≡◌, Some, None, ℕ, zero, suc, ◌+◌, Bool, true, false, List, [], ◌∷◌, ◌++◌, length, map, filter, not}
use Rattle.std.specs.Prelude.{replicate, count_by, if◌then◌else◌}
use Rattle.std.specs.List.{AllByRecursion, flat_map, list_all}
use Rattle.gw_addr.specs.declared.bip.BipAddr.{BipAddr}
use Rattle.gw_relay.specs.Cast.{accepts}
use Rattle.gw_relay.specs.Link.{answer_to, refused}
use Rattle.gw_relay.specs.Manage.{manage_steps, onward_sends}
use Rattle.gw_relay.specs.Initial.{initial}
use Rattle.gw_relay.specs.Plain.{is_plain}
use Rattle.gw_relay.specs.Route.{route_steps}
use Rattle.gw_relay.specs.State.{Relay, later}
use Rattle.gw_relay.specs.Steps.{Step}
use Rattle.gw_core.specs.declared.effects.Effects.{Effects}
use Rattle.gw_core.specs.declared.event.Counts.{Counts}
use Rattle.gw_script.specs.Event.{Event, Datagram, Tick}
use Rattle.gw_configuration.specs.Configuration.{Configuration, keeps_limits}
use Rattle.gw_rules.specs.declared.format.Format.{Format}
use Rattle.gw_rules.specs.declared.format.Format.TheVariants.{One, Three}
use Rattle.gw_core.specs.History.{log, RoutesStand, TablesStand, WritesStand, learnings, port_acts, writes, state_after, run, history_after}
use Rattle.gw_core.specs.History.{IsStep, IsStateAfter, effects, run_after, run_from, state_from, next}
use Rattle.gw_frames.specs.npdu.Npdu.{Address}
use Rattle.gw_relay.specs.Entry.{comes_by_route, enters, entry_asks}
use Rattle.gw_relay.specs.Laws.{Reaches, is_unicast}
use Rattle.gw_relay.specs.Stations.{belongs}
use Rattle.gw_rules.specs.Allowed.{NoneAllowed}
use Rattle.gw_rules.specs.Ask.{Ask, IsFor}
use Rattle.gw_rules.specs.Format.{names_stations}
use Rattle.gw_rules.specs.declared.operation.Operation.TheVariants.{Claim, Enter}
use Rattle.gw_rules.specs.declared.rule.Rule.{Rule}
use Rattle.gw_rules.specs.RuleList.{allows, first, is_logged, is_quiet_by}
use Rattle.gw_codecs.specs.declared.apdu.header.ConfirmedRequest.{ConfirmedRequest}
use Rattle.gw_codecs.specs.apdu.Answers.{error}
use Rattle.gw_objects.specs.Objects.{Database, database_of}
use Rattle.gw_codecs.specs.services.Read.{Read}
use Rattle.gw_codecs.specs.services.Write.{Write}
use Rattle.gw_device.specs.declared.context.Context.{Context}
use Rattle.gw_device.specs.Errors.{error_of}
use Rattle.gw_device.specs.Read.{named_read, read_ask, read_response}
use Rattle.gw_device.specs.Response.{to_client}
use Rattle.gw_codecs.specs.services.Choices.{read_property, write_property}
use Rattle.gw_device.specs.Write.{write_ask, write_response}
use Rattle.gw_core.specs.Asks.{asks, cast_asks_for, manage_asks_for, route_asks_for}
use Rattle.gw_core.specs.Denials.{rule_name}
use Rattle.gw_core_laws.specs.FormatOne.{before_two}
use Rattle.gw_core_laws.specs.FormatTwo.{asked_by, asked_from, before_three, effects_by, left_by, received_before, run_by}
use Rattle.gw_core.specs.Effects.{NeedsNoMemory, cast_sends_for, change_at, effects_at, manage_sends_for, move_at, nothing, route_sends_for}
use Rattle.gw_relay.specs.Message.{Message}
use Rattle.gw_core.specs.Receive.{Received, dropped, message, receive}
use Rattle.gw_core.specs.State.{State}

-- a tick, and no datagram
abbrev pub is_tick : Event → Bool
is_tick (Datagram port from octets) = false
is_tick Tick = true

-- so many numbers, counted up
abbrev pub numbers_from : ℕ → ℕ → List ℕ
numbers_from first zero = []
numbers_from first (suc count) = first ∷ numbers_from (first + 1) count

-- The ticks of a gateway are the first count and the ticks of its history.
abbrev pub TicksAreCounted : Type 0
TicksAreCounted =
    (c : Configuration) (k : Counts) (h : List Event) → (state_after c k h).ticks ≡ k.ticks + count_by is_tick h

-- The ticks that the ports' tables have seen are those of the history.
abbrev pub RelayTicksAreCounted : Type 0
RelayTicksAreCounted = (c : Configuration) (k : Counts) (h : List Event) →
    ((state_after c k h).relay.ticks ≡ count_by is_tick h)
    × AllByRecursion (λ state. state.fdt.ticks ≡ count_by is_tick h) (state_after c k h).relay.ports

-- The number of its last denial is the first count and the length of the log so far.
abbrev pub DenialsAreCounted : Type 0
DenialsAreCounted =
    (c : Configuration) (k : Counts) (l : List Event)
    → (state_after c k (history_after [] l)).denials ≡ k.denials + length (log (run c k l))

-- The denials of the log are numbered one after the other, from one more than the first count on.
abbrev pub LogIsNumbered : Type 0
LogIsNumbered =
    (c : Configuration) (k : Counts) (l : List Event)
    → map (λ d. d.number) (log (run c k l)) ≡ numbers_from (k.denials + 1) (length (log (run c k l)))

-- Each step extends every history: what was answered is what the event does after that history, and the
-- state is that after one event more.
abbrev pub StepsExtendHistories : Type 0
StepsExtendHistories =
    (before : State) (event : Event) (given : Effects) (after : State) → IsStep before event given after
    → (c : Configuration) (k : Counts) (h : List Event) → IsStateAfter before c k h
    → (given ≡ effects c k h event) × IsStateAfter after c k (event ∷ h)

-- A list of events does, from the state after a history, what it does after that history, and leads to
-- the state after the longer one.
abbrev pub RunsExtendHistories : Type 0
RunsExtendHistories =
    (c : Configuration) (k : Counts) (h l : List Event) →
    (run_from (state_after c k h) l ≡ run_after c k h l)
    × (state_from (state_after c k h) l ≡ state_after c k (history_after h l))

-- A tick sends and logs nothing: it counts, and the ports' tables are a tick later.
abbrev pub TicksOnlyCount : Type 0
TicksOnlyCount =
    (w : State) → (effects_at w Tick ≡ nothing)
    × (next w Tick ≡ record w { relay = later w.relay; ticks = w.ticks + 1 })

-- An event that asks nothing logs nothing.
abbrev pub NothingAskedIsLogged : Type 0
NothingAskedIsLogged = (w : State) (e : Event) → asks w e ≡ [] → (effects_at w e).denials ≡ []

-- what the log says of an ask: the first rule that matches, or `default`
abbrev pub entry : List Rule → Ask → Ask × List ℕ
entry rules ask = (ask, rule_name rules (first rules ask))

-- An ask is in the log exactly where the event raises it, the policy doesn't allow it, and its first rule isn't quiet; in
-- order, under that rule, or `default` where none matches.
abbrev pub DeniedAsksAreLogged : Type 0
DeniedAsksAreLogged =
    (w : State) (e : Event) →
    map (λ d. (d.ask, d.rule)) (effects_at w e).denials
    ≡ map (entry w.rules) (filter (is_logged w.rules) (asks w e))

-- Each denial has the count of ticks of its moment.
abbrev pub DenialsHaveTheirTick : Type 0
DenialsHaveTheirTick =
    (w : State) (e : Event) →
    map (λ d. d.tick) (effects_at w e).denials ≡ replicate (length (effects_at w e).denials) w.ticks

-- A denied read answers exactly the error of class 2 and code 27, whatever is there.
abbrev pub DeniedReadsAreRefused : Type 0
DeniedReadsAreRefused =
    (rules : List Rule) (d : Database) (context : Context) (request : ConfirmedRequest) (read : Read) →
    allows rules (read_ask d context (named_read d read)) ≡ false →
    (read_response rules d context request read).answer
    ≡ to_client (error request.invoke read_property (error_of 2 27))

-- A denied write answers exactly the error of class 2 and code 40, and changes nothing.
abbrev pub DeniedWritesAreRefused : Type 0
DeniedWritesAreRefused =
    (rules : List Rule) (d : Database) (context : Context) (invoke : ℕ) (write : Write) →
    allows rules (write_ask d context write) ≡ false →
    ((write_response rules d context invoke write).answer
    ≡ to_client (error invoke write_property (error_of 2 40)))
    × ((write_response rules d context invoke write).change ≡ None)

-- What the policy allows of a step of routing or of the network layer: each ask on which its sends hang.
abbrev pub is_allowed : List Rule → Step → Bool
is_allowed rules step = list_all (allows rules) step.asks

-- What is routed, and answered to network layer messages, are the sends of exactly those steps whose asks the
-- policy all allows, in order, and after the answers what is announced onward; and the asks are those of all steps.
abbrev pub AllowedTrafficIsSent : Type 0
AllowedTrafficIsSent = (rules : List Rule) (relay : Relay) (m : Message) →
    (route_sends_for rules relay (message m)
    ≡ flat_map (λ s. s.sends) (filter (is_allowed rules) (route_steps relay m)))
    × (route_asks_for relay (message m) ≡ flat_map (λ s. s.asks) (route_steps relay m))
    × (manage_sends_for rules relay (message m)
    ≡ flat_map (λ s. s.sends) (filter (is_allowed rules) (manage_steps relay m)) ++ onward_sends rules relay m)
    × (manage_asks_for relay (message m) ≡ flat_map (λ s. s.asks) (manage_steps relay m))

-- A broadcast that the policy denies is distributed to nobody: a Distribute-Broadcast gets its refusal, and any
-- other frame nothing.
abbrev pub DeniedBroadcastsAreKept : Type 0
DeniedBroadcastsAreKept = (rules : List Rule) (relay : Relay) (m : Message) →
    list_all (allows rules) (cast_asks_for relay (message m)) ≡ false → accepts m.here m.from m.frame ≡ true →
    cast_sends_for rules relay (message m) ≡ map (answer_to m.here.port m.from) (refused m.frame)

-- A datagram that is dropped asks nothing and sends nothing, so it needs no memory.
abbrev pub DroppedNeedsNoMemory : Type 0
DroppedNeedsNoMemory = (w : State) (e : Event) → receive w e ≡ dropped → NeedsNoMemory w e

-- A datagram that asks nothing changes no table and no route.
abbrev pub NothingAskedIsChanged : Type 0
NothingAskedIsChanged = (w : State) (port : ℕ) (from : BipAddr) (octets : List ℕ) →
    asks w (Datagram port from octets) ≡ [] → move_at w (Datagram port from octets) ≡ None

-- An event that asks nothing writes nothing.
abbrev pub NothingAskedIsWritten : Type 0
NothingAskedIsWritten = (w : State) (e : Event) → asks w e ≡ [] → change_at w e ≡ None

-- After every history the ports' tables are those that its granted acts and its ticks left.
abbrev pub ActsLeaveTheTables : Type 0
ActsLeaveTheTables =
    (c : Configuration) (k : Counts) (h : List Event) → TablesStand c (port_acts c k h) (state_after c k h)

-- And the routes are the configured ones, and those of the networks that were granted to be learned.
abbrev pub LearningsLeaveTheRoutes : Type 0
LearningsLeaveTheRoutes =
    (c : Configuration) (k : Counts) (h : List Event) → RoutesStand c (learnings c k h) (state_after c k h)

-- And each slot and each default of the device's objects is what the granted writes left.
abbrev pub WritesLeaveTheSlots : Type 0
WritesLeaveTheSlots =
    (c : Configuration) (k : Counts) (h : List Event) → WritesStand c (writes c k h) (state_after c k h)

-- A gateway has the ports of its configuration, whatever comes.
abbrev pub PortsStay : Type 0
PortsStay = (c : Configuration) (k : Counts) (h : List Event) → length (state_after c k h).relay.ports ≡ length c.ports

-- What is configured of the device never changes.
abbrev pub ConfigurationStays : Type 0
ConfigurationStays = (c : Configuration) (k : Counts) (h : List Event) →
    (state_after c k h).device.configured ≡ (database_of c).configured

-- ---- the formats of a policy

-- A configuration of the first or the second format that is within its limits has no port with another broadcast manager
-- beside it, and announces nothing.
abbrev pub FirstFormatsArePlain : Type 0
FirstFormatsArePlain =
    (c : Configuration) → names_stations c.format ≡ false → keeps_limits c ≡ true → is_plain (initial c) ≡ true

-- In such a state of the first format an event does what it did before there was a second (FormatOne.antt).
abbrev pub FormatOneIsAsBefore : Type 0
FormatOneIsAsBefore = (w : State) (e : Event) → w.relay.format ≡ One → is_plain w.relay ≡ true → effects_at w e ≡ effects_by before_two w e

-- Under a configuration of the first format every list of events asks and does what it did before there was a second,
-- and leaves the state that it left.
abbrev pub FormatOneRunsAsBefore : Type 0
FormatOneRunsAsBefore = (c : Configuration) (k : Counts) (l : List Event) → c.format ≡ One → is_plain (initial c) ≡ true →
    let fresh = state_after c k [] in
    (asked_from fresh l ≡ asked_by before_two fresh l) × (run c k l ≡ run_by before_two fresh l)
    × (state_after c k (history_after [] l) ≡ left_by before_two fresh l)

-- a state under another format
abbrev pub under : Format → State → State
under format w = record w { relay = record w.relay { format = format } }

-- And what they did then looks at no format.
abbrev pub FormatWasUnread : Type 0
FormatWasUnread = (format : Format) (w : State) (l : List Event) →
    (asked_by before_two (under format w) l ≡ asked_by before_two w l)
    × (run_by before_two (under format w) l ≡ run_by before_two w l)
    × (left_by before_two (under format w) l ≡ under format (left_by before_two w l))

-- In such a state of the first or the second format an event does what it did before there was a third (FormatTwo.antt).
abbrev pub FormatTwoIsAsBefore : Type 0
FormatTwoIsAsBefore =
    (w : State) (e : Event) → names_stations w.relay.format ≡ false → is_plain w.relay ≡ true →
    effects_at w e ≡ effects_by before_three w e

-- Under a configuration of the first or the second format every list of events asks and does what it did before there was
-- a third, and leaves the state that it left.
abbrev pub FormatTwoRunsAsBefore : Type 0
FormatTwoRunsAsBefore = (c : Configuration) (k : Counts) (l : List Event) → names_stations c.format ≡ false →
    is_plain (initial c) ≡ true →
    let fresh = state_after c k [] in
    (asked_from fresh l ≡ asked_by before_three fresh l) × (run c k l ≡ run_by before_three fresh l)
    × (state_after c k (history_after [] l) ≡ left_by before_three fresh l)

-- After every history the format is that of the configuration.
abbrev pub FormatStays : Type 0
FormatStays = (c : Configuration) (k : Counts) (h : List Event) → (state_after c k h).relay.format ≡ c.format

-- ---- the third format

-- An event does nothing but what a refusal is: one of its asks is denied, which is its only denial unless the rule that
-- denies it is quiet, and for a Distribute-Broadcast-To-Network there is its negative code. No table, no route and no value
-- of the device changes.
pub record IsKeptOut (w : State) (e : Event) (m : Message) : Type 0 where
  pub sends : (effects_at w e).sends ≡ map (answer_to m.here.port m.from) (refused m.frame)
  pub asked : asks w e ≡ entry_asks w.rules w.relay m
  pub refused : Ask
  pub alone : filter (λ ask. not (allows w.rules ask)) (asks w e) ≡ refused ∷ []
  pub denied : length (effects_at w e).denials ≡ (if is_quiet_by w.rules (first w.rules refused) then 0 else 1)
  pub relay : (next w e).relay ≡ w.relay
  pub device : (next w e).device ≡ w.device

-- what a datagram brings before the policy is asked who may enter
abbrev pub brings : State → Event → Received
brings w e = received_before w e

-- No forged claim: if the rules allow no ask to claim, an event whose NPDU names a source network that doesn't lie behind
-- its link source does nothing but its denial.
abbrev pub NoForgedClaim : Type 0
NoForgedClaim =
    (w : State) (e : Event) (m : Message) (source : Address) → w.relay.format ≡ Three → brings w e ≡ message m →
    m.npdu.source ≡ Some source → comes_by_route w.relay m source ≡ false →
    NoneAllowed (IsFor Claim) w.rules (asks w e) → IsKeptOut w e m

-- No stranger: if they allow no ask to enter, an Original-Unicast-NPDU, an Original-Broadcast-NPDU or a Forwarded-NPDU
-- whose link source doesn't belong to its port does nothing but its denial.
abbrev pub NoStranger : Type 0
NoStranger =
    (w : State) (e : Event) (m : Message) → w.relay.format ≡ Three → brings w e ≡ message m →
    enters m.frame ≡ true → belongs Three m.here m.link ≡ false →
    NoneAllowed (IsFor Enter) w.rules (asks w e) → IsKeptOut w e m

-- No delivery outside: every unicast that routing sends goes to an address that belongs to the port on which it is sent,
-- to a router of the table, or, a Reject-Message-To-Network, back to the link source.
abbrev pub NoDeliveryOutside : Type 0
NoDeliveryOutside =
    (w : State) (e : Event) (m : Message) → receive w e ≡ message m →
    AllByRecursion (λ s. is_unicast s ≡ true → Reaches w.relay m s) (route_sends_for w.rules w.relay (receive w e))
