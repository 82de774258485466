-- What an event leaves to be seen of those before it: two lists of events, of which the second leaves some out.
use Rattle.std.specs.Prelude.{◌≡◌, ℕ, Bool, true, false, List, [], ◌∷◌, map, take, Option, Some, None, IfSome}
use Rattle.std.specs.Prelude.{slice_get}
use Rattle.std.specs.List.{AllByRecursion, Contains}
use Rattle.std.specs.Option.{option_map, option_and_then}
use Rattle.gw_addr.specs.declared.station.Source.{Source}
use Rattle.gw_addr.specs.Address.{big_endian, octets_of}
use Rattle.gw_audit.specs.declared.denial.Denial.{Denial}
use Rattle.gw_device.specs.Laws.{AsksToRead, object_written}
use Rattle.gw_objects.specs.Objects.{Database}
use Rattle.gw_configuration.specs.Configuration.{Configuration}
use Rattle.gw_relay.specs.Announcement.{announcements}
use Rattle.gw_relay.specs.Claim.{claimed, link_source, local_source}
use Rattle.gw_relay.specs.Laws.{AreFrom}
use Rattle.gw_rules.specs.Allowed.{NoChangeAllowed, NoneAllowed}
use Rattle.gw_rules.specs.Ask.{Ask, IsFor, IsFrom}
use Rattle.gw_rules.specs.Format.{key_in, names_stations}
use Rattle.gw_rules.specs.declared.format.Format.{Format}
use Rattle.gw_rules.specs.declared.operation.Operation.TheVariants as operations
use Rattle.gw_rules.specs.declared.rule.Rule.{Rule}
use Rattle.gw_rules.specs.Hides.{IsHidden}
use Rattle.gw_script.specs.Event.{Event, Datagram, Tick}
use Rattle.gw_codecs.specs.tags.Object.{Object}
use Rattle.gw_core.specs.declared.effects.Effects.{Effects}
use Rattle.gw_core.specs.declared.event.Counts.{Counts}
use Rattle.gw_core.specs.Asks.{asks}
use Rattle.gw_core.specs.History.{history_after, run, state_after}
use Rattle.gw_core.specs.Marked.{kept}
use Rattle.gw_relay.specs.Message.{Message}
use Rattle.gw_core.specs.Receive.{Received, barred, dropped, managed, unregistered, message, receive}
use Rattle.gw_core.specs.Reply.{apdu_for}
use Rattle.gw_core.specs.State.{State, device_network}

-- ---- two lists

-- Each event of a list that is marked is such a one, after the events before it in that list.
abbrev pub LeavesOut : (State → Event → Type 0) → Configuration → Counts → List Event → List Bool → List Event → Type 0
LeavesOut Such c k h marks [] = Unit {0}
LeavesOut Such c k h [] (e ∷ l) = Unit {0}
LeavesOut Such c k h (true ∷ marks) (e ∷ l) =
    Such (state_after c k h) e × LeavesOut Such c k (e ∷ h) marks l
LeavesOut Such c k h (false ∷ marks) (e ∷ l) = LeavesOut Such c k (e ∷ h) marks l

-- ---- what is seen of an event

-- a denial but for its number
abbrev pub unnumbered : Denial → Denial
unnumbered d = record d { number = 0 }

-- what an event does, but for the numbers of its denials
abbrev pub seen : Effects → Effects
seen x = record x { denials = map unnumbered x.denials }

-- the state of a gateway before the event at a place of a list
abbrev pub state_before : Configuration → Counts → List Event → ℕ → State
state_before c k l place = state_after c k (history_after [] (take place l))

-- The event at a place of the shorter list is seen to do what it does in the longer one.
abbrev pub SeenAlike : Configuration → Counts → List Bool → List Event → ℕ → Type 0
SeenAlike c k marks l place =
    option_map seen (slice_get (run c k (kept marks l)) place)
    ≡ option_map seen (slice_get (kept marks (run c k l)) place)

-- ---- who reads an object

-- an ask to read the object of a network, and not that of another network
pub record AsksToReadOn (network : ℕ) (o : Object) (ask : Ask) : Type 0 where
  pub reads : AsksToRead o ask
  pub destination : ask.destination_network ≡ Some network

-- no ask among these to read the object of the network is allowed
abbrev pub NoReadAllowedOn : ℕ → List Rule → Object → List Ask → Type 0
NoReadAllowedOn network rules o asks = NoneAllowed (AsksToReadOn network o) rules asks

-- ---- what is left out: writes of an object

-- the object of a WriteProperty that the device takes
abbrev pub object_of : Database → Received → Option Object
object_of d dropped = None
object_of d (managed on from frame) = None
object_of d (unregistered m) = None
object_of d (barred m) = None
object_of d (message m) = option_and_then object_written (apdu_for (device_network d) m.npdu)

-- an event is a WriteProperty of the object that the device takes
abbrev pub IsWriteOf : Object → State → Event → Type 0
IsWriteOf o w e = object_of w.device (receive w e) ≡ Some o

-- ---- what is left out: datagrams that may change nothing

-- a datagram of whose asks none that would change something is allowed
abbrev pub IsQuiet : State → Event → Type 0
IsQuiet w Tick = ⊥
IsQuiet w (Datagram port from octets) = NoChangeAllowed w.rules (asks w (Datagram port from octets))

-- ---- who sees

-- No ask of one of these sources to read the object is allowed, whatever else it says.
abbrev pub AreBlind : Format → List Rule → List Source → Object → Type 0
AreBlind format rules sources o =
    (source : Source) → Contains sources source →
    IsHidden rules source.net (key_in format source.mac) o.kind o.instance

-- whom an event claims to come from, where it isn't dropped (clause 6.2.2)
abbrev pub claim : Received → Option Source
claim dropped = None
claim (managed on from frame) = Some (local_source on.port.network from)
claim (unregistered m) = Some m.claim
claim (barred m) = Some m.claim
claim (message m) = Some m.claim

-- ---- the laws

-- a message claims what its NPDU and its frame say
abbrev pub IsClaimed : Message → Type 0
IsClaimed m = m.claim ≡ claimed m.here.port.network (link_source m.from m.frame) m.npdu

-- an ask is of the source that the message claims, or is one to enter, of the link source
pub data IsOf (format : Format) (m : Message) (ask : Ask) : Type 0 where
  by_claim : IsFrom m.claim.net (key_in format m.claim.mac) ask → IsOf format m ask
  by_entry : IsFor operations.Enter ask → IsFrom m.here.port.network (key_in format (octets_of m.link)) ask → IsOf format m ask

-- A message claims what its NPDU and its frame say, and each ask that it raises is of that source; but in format 3, where
-- the policy is also asked who may enter, an ask to enter is of the link source.
abbrev pub AsksCarryTheirClaim : Type 0
AsksCarryTheirClaim =
    (w : State) (e : Event) (m : Message) → receive w e ≡ message m →
    IsClaimed m × AllByRecursion (IsOf w.relay.format m) (asks w e)
    × (names_stations w.relay.format ≡ false → AreFrom w.relay.format m.claim (asks w e))

-- whose the asks of what is received are
abbrev pub AreTheirs : Format → Received → List Ask → Type 0
AreTheirs format dropped asked = asked ≡ []
AreTheirs format (unregistered m) asked = asked ≡ []
AreTheirs format (managed on from frame) asked =
    AllByRecursion (IsFrom on.port.network (Some (big_endian (octets_of from)))) asked
AreTheirs format (barred m) asked = IsClaimed m × AllByRecursion (IsOf format m) asked
AreTheirs format (message m) asked = IsClaimed m × AllByRecursion (IsOf format m) asked

-- The same of whatever is received. A frame that manages a table asks for its sender alone, as a node of the port's
-- network. A message that is kept out asks for whom it claims to come from, or to enter for the link source, as one that
-- is taken does. A sender who isn't registered asks nothing, and nor does what is dropped.
abbrev pub AsksHaveTheirOrigin : Type 0
AsksHaveTheirOrigin = (w : State) (e : Event) → AreTheirs w.relay.format (receive w e) (asks w e)

-- Where all that is left out are writes of an object, an event is seen to do the same if it claims to come from one of
-- those that may not read the object, whatever it asks.
abbrev pub WritesAreHidden : Type 0
WritesAreHidden =
    (c : Configuration) (k : Counts) (sources : List Source) (o : Object) (marks : List Bool) (l : List Event) →
    AreBlind c.format c.rules sources o → LeavesOut (IsWriteOf o) c k [] marks l →
    (place : ℕ) (e : Event) → slice_get (kept marks l) place ≡ Some e →
    IfSome (claim (receive (state_before c k (kept marks l) place) e)) (Contains sources) →
    SeenAlike c k marks l place

-- And so is each event, whoever claims it, that raises no ask to read the object of the device's own network that is
-- allowed. An allowed read of the same object of another network, which goes on there, is no read of it.
abbrev pub WritesAreUnread : Type 0
WritesAreUnread =
    (c : Configuration) (k : Counts) (o : Object) (marks : List Bool) (l : List Event) →
    LeavesOut (IsWriteOf o) c k [] marks l →
    (place : ℕ) (e : Event) → slice_get (kept marks l) place ≡ Some e →
    NoReadAllowedOn c.device.network c.rules o (asks (state_before c k (kept marks l) place) e) →
    SeenAlike c k marks l place

-- Where all that is left out are datagrams that may change nothing, every event is seen to do the same.
abbrev pub QuietIsUnseen : Type 0
QuietIsUnseen =
    (c : Configuration) (k : Counts) (marks : List Bool) (l : List Event) → LeavesOut IsQuiet c k [] marks l →
    map seen (run c k (kept marks l)) ≡ map seen (kept marks (run c k l))

-- Where all that is left out are writes of an object, the same is announced after the list, on each port: an announcement
-- rests on the configuration and on what was granted to be learned alone.
abbrev pub AnnouncementsAreUnread : Type 0
AnnouncementsAreUnread =
    (c : Configuration) (k : Counts) (o : Object) (marks : List Bool) (l : List Event) →
    LeavesOut (IsWriteOf o) c k [] marks l →
    announcements (state_after c k (history_after [] (kept marks l))).relay
    ≡ announcements (state_after c k (history_after [] l)).relay
