-- What events ask and do under the third format of a policy where it keeps nobody out: what they do under the second, but
-- for the two fields that asks have under the third alone.
use Rattle.std.specs.Prelude.{◌≡◌, ℕ, Bool, true, false, ◌&&◌, ◌||◌, ◌==◌, List, [], ◌∷◌, ◌++◌, map, if◌then◌else◌}
use Rattle.std.specs.Prelude.{Some, None, Result, Ok, Err}
use Rattle.std.specs.List.{AllByRecursion, zip}
use Rattle.gw_addr.specs.declared.bip.BipAddr.{BipAddr}
use Rattle.gw_addr.specs.Address.{big_endian, octets_of}
use Rattle.gw_audit.specs.declared.denial.Denial.{Denial}
use Rattle.gw_codecs.specs.apdu.Apdu.{Fields as Apdu}
use Rattle.gw_codecs.specs.apdu.Reading.{apdu_at}
use Rattle.gw_codecs.specs.declared.apdu.fault.ApduFault.{ApduFault}
use Rattle.gw_codecs.specs.declared.apdu.header.Header.{Header}
use Rattle.gw_codecs.specs.declared.apdu.header.Header.TheVariants.{ConfirmedRequest}
use Rattle.gw_codecs.specs.services.Choices.{read_property, read_property_multiple, write_property}
use Rattle.gw_configuration.specs.Configuration.{Configuration}
use Rattle.gw_configuration.specs.declared.port.Port.{Port as ConfiguredPort}
use Rattle.gw_frames.specs.npdu.Npdu.{Payload, apdu, message as network_message}
use Rattle.gw_frames.specs.bvll.Bvll.{Message as Frame}
use Rattle.gw_objects.specs.Objects.{Database}
use Rattle.gw_relay.specs.Asks.{deleted_station, link_asks, station_of}
use Rattle.gw_relay.specs.Cast.{cast_asks, is_broadcast}
use Rattle.gw_relay.specs.Entry.{claim_asks, entry_asks}
use Rattle.gw_relay.specs.Manage.{manage_asks}
use Rattle.gw_relay.specs.Message.{Message}
use Rattle.gw_relay.specs.Route.{route_asks}
use Rattle.gw_relay.specs.State.{Relay}
use Rattle.gw_relay.specs.declared.port.PortState.{PortState}
use Rattle.gw_rules.specs.Ask.{Ask, IsFor}
use Rattle.gw_rules.specs.Format.{key_in, names_stations}
use Rattle.gw_rules.specs.Rule.{ranges_of}
use Rattle.gw_rules.specs.RuleList.{allows}
use Rattle.gw_rules.specs.declared.field.FieldName.TheVariants.{Sender, Station}
use Rattle.gw_rules.specs.declared.format.Format.TheVariants.{Two, Three}
use Rattle.gw_rules.specs.declared.operation.Operation.TheVariants.{Claim}
use Rattle.gw_rules.specs.declared.rule.Rule.{Rule}
use Rattle.gw_script.specs.Event.{Event, Datagram}
use Rattle.gw_core.specs.declared.effects.Effects.{Effects}
use Rattle.gw_core.specs.declared.event.Counts.{Counts}
use Rattle.gw_core.specs.Asks.{asks, message_asks}
use Rattle.gw_core.specs.Effects.{effects_at}
use Rattle.gw_core.specs.History.{history_after, next, run, state_after}
use Rattle.gw_core.specs.Receive.{Received, message, receive}
use Rattle.gw_core.specs.State.{State}
use Rattle.gw_core_laws.specs.FormatTwo.{asked_from}
use Rattle.gw_core_laws.specs.Laws.{brings, under}

-- ---- but for the two fields

-- an ask without who sent the datagram, and without the station that it names
abbrev pub unstationed : Ask → Ask
unstationed ask = record ask { sender = None; station = None }

-- a denial whose ask is without them; its number, its tick, its port, its source and its rule stay
abbrev pub unstationed_denial : Denial → Denial
unstationed_denial d = record d { ask = unstationed d.ask }

-- what an event does: its sends as they are, and its denials without the two fields
abbrev pub unstationed_effects : Effects → Effects
unstationed_effects x = record x { denials = map unstationed_denial x.denials }

-- ---- who isn't kept out

-- no port has stations, so every address belongs to each port
abbrev pub HaveNoStations : List PortState → Type 0
HaveNoStations ports = AllByRecursion (λ state. state.stations ≡ []) ports

-- no rule says anything of the two fields, as none does in the second format
abbrev pub NameNoStation : List Rule → Type 0
NameNoStation rules = AllByRecursion (λ rule. (ranges_of Sender rule ≡ []) × (ranges_of Station rule ≡ [])) rules

-- the services whose requests name properties
abbrev pub names_properties : ℕ → Bool
names_properties service =
    service == read_property || (service == read_property_multiple || service == write_property)

abbrev pub header_names : Header → Bool
header_names (ConfirmedRequest request) = names_properties request.service
header_names other = false

-- octets that are no APDU name nothing
abbrev pub apdu_names : Result Apdu ApduFault → Bool
apdu_names (Ok x) = header_names x.header
apdu_names (Err fault) = false

-- a payload is a confirmed request that reads or writes properties (clauses 15.5, 15.7 and 15.9)
abbrev pub is_property_request : Payload → Bool
is_property_request (network_message m) = false
is_property_request (apdu octets) = apdu_names (apdu_at octets)

-- the source that a message claims has the same key in both formats: it has six octets, or more than seven, or none
abbrev pub IsKeyedAlike : Message → Type 0
IsKeyedAlike m = key_in Three m.claim.mac ≡ key_in Two m.claim.mac

-- An event that the third format doesn't treat otherwise: each of its asks to claim is allowed (none is to enter where no
-- port has stations), it is no broadcast of a confirmed request that reads or writes properties, and its source has the
-- same key in both formats.
pub record IsTakenAlike (w : State) (e : Event) : Type 0 where
  pub claims : AllByRecursion (λ ask. IsFor Claim ask → allows w.rules ask ≡ true) (asks w e)
  pub broadcast : (m : Message) → receive w e ≡ message m → (is_broadcast m.frame && is_property_request m.npdu.payload) ≡ false
  pub keyed : (m : Message) → receive w e ≡ message m → IsKeyedAlike m

-- each event of a list is such a one, after those before it
abbrev pub AreTakenAlike : State → List Event → Type 0
AreTakenAlike w [] = Unit {0}
AreTakenAlike w (e ∷ l) = IsTakenAlike w e × AreTakenAlike (next w e) l

-- ---- the laws

-- the ask to claim, if there is one: of a message whose source doesn't come by its route
abbrev pub claims_of : Relay → Received → List Ask
claims_of relay (message m) = claim_asks relay m
claims_of relay other = []

-- the asks of an event to claim
abbrev pub claims_at : State → Event → List Ask
claims_at w e = claims_of w.relay (brings w e)

-- What an event does as it would under the second format: it asks the same, but for the two fields, after its ask to
-- claim; it sends the same datagrams to the same addresses; what is denied is the same but for the two fields, with the
-- same numbers and rules; and the state after it is the same but for the format.
pub record IsAsUnderTwo (w : State) (e : Event) : Type 0 where
  pub asked : map unstationed (asks w e) ≡ map unstationed (claims_at w e) ++ asks (under Two w) e
  pub effects : unstationed_effects (effects_at w e) ≡ effects_at (under Two w) e
  pub next : under Two (next w e) ≡ next (under Two w) e

-- In a state of the third format in which no port has stations and no rule names one of the two fields, an event that the
-- third format doesn't treat otherwise is as under the second.
abbrev pub FormatThreeIsAsTwo : Type 0
FormatThreeIsAsTwo =
    (w : State) (e : Event) → w.relay.format ≡ Three → HaveNoStations w.relay.ports → NameNoStation w.rules →
    IsTakenAlike w e → IsAsUnderTwo w e

-- what each event of a list asks to claim
unfoldable pub claimed_from : State → List Event → List (List Ask)
claimed_from w [] = []
claimed_from w (e ∷ l) = claims_at w e ∷ claimed_from (next w e) l

-- asks without the two fields, before others
abbrev pub before : List Ask × List Ask → List Ask
before both = map unstationed both.0 ++ both.1

-- a configuration in the second format
abbrev pub in_format_two : Configuration → Configuration
in_format_two c = record c { format = Two }

-- A configuration of the third format without stations, whose rules name neither of the two fields: the events of a list
-- that the third format doesn't treat otherwise ask and do, one after the other, what they ask and do under the same
-- configuration in the second format, and leave the same state but for the format.
abbrev pub FormatThreeRunsAsTwo : Type 0
FormatThreeRunsAsTwo =
    (c : Configuration) (k : Counts) (l : List Event) → c.format ≡ Three →
    AllByRecursion (λ (p : ConfiguredPort). p.stations ≡ []) c.ports → NameNoStation c.rules →
    let three = state_after c k [] in
    let two = state_after (in_format_two c) k [] in
    AreTakenAlike three l →
    (map (map unstationed) (asked_from three l) ≡ map before (zip (claimed_from three l) (asked_from two l)))
    × (map unstationed_effects (run c k l) ≡ run (in_format_two c) k l)
    × (under Two (state_after c k (history_after [] l)) ≡ state_after (in_format_two c) k (history_after [] l))

-- ---- the two fields

-- Each ask of a datagram has the key of its sender under the third format, and none under the first two.
abbrev pub AsksNameTheirSender : Type 0
AsksNameTheirSender =
    (w : State) (port : ℕ) (from : BipAddr) (octets : List ℕ) →
    AllByRecursion (λ ask. ask.sender ≡ (if names_stations w.relay.format then Some (big_endian (octets_of from)) else None))
    (asks w (Datagram port from octets))

-- Which station an ask names under the third format (none does under the first two): of a broadcast and of what is routed,
-- with all that is asked behind them, the one for which the message is bound; of a frame that deletes a registration the
-- address in it; and every other ask names none.
pub record AsksNameTheirStation : Type 0 where
  pub deletions : (relay : Relay) (on : PortState) (from : BipAddr) (frame : Frame) →
      AllByRecursion (λ ask. ask.station ≡ deleted_station relay.format frame) (link_asks relay.format on.port from frame)
  pub broadcasts : (relay : Relay) (m : Message) →
      AllByRecursion (λ ask. ask.station ≡ station_of relay.format m.npdu) (cast_asks relay.format m)
  pub routed : (relay : Relay) (m : Message) →
      AllByRecursion (λ ask. ask.station ≡ station_of relay.format m.npdu) (route_asks relay m)
  pub entered : (rules : List Rule) (relay : Relay) (m : Message) →
      AllByRecursion (λ ask. ask.station ≡ None) (entry_asks rules relay m)
  pub answered : (relay : Relay) (m : Message) → AllByRecursion (λ ask. ask.station ≡ None) (manage_asks relay m)
  pub served : (rules : List Rule) (relay : Relay) (d : Database) (m : Message) →
      AllByRecursion (λ ask. ask.station ≡ None) (message_asks rules relay.format d m)
