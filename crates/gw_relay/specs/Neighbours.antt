-- What the two keys come to: without them everything is as it was; a port beside another broadcast manager has no tables
-- and distributes nothing; and announcements end.
use Rattle.std.specs.Prelude.{◌≡◌, ℕ, ◌+◌, Bool, true, false, ◌&&◌, ◌||◌, ◌==◌, if◌then◌else◌, List, [], ◌∷◌, ◌++◌, length, map, nat_eq, nat_le}
use Rattle.std.specs.Prelude.{is_some, Some, None}
use Rattle.std.specs.List.{list_any, AllByRecursion, IsDistinct}
use Rattle.std.specs.Map.{keys_of}
use Rattle.std.specs.Option.{option_map}
use Rattle.gw_addr.specs.declared.bip.BipAddr.{BipAddr}
use Rattle.gw_frames.specs.bvll.Bvll.{distribute, original_broadcast}
use Rattle.gw_frames.specs.bvll.Bvll.{Message as Frame}
use Rattle.gw_frames.specs.npdu.Numbers.{max_len}
use Rattle.gw_configuration.specs.Configuration.{Configuration}
use Rattle.gw_tables.specs.declared.bdt_fdt.tables.PortTables.{PortTables}
use Rattle.gw_tables.specs.routes.Table.{Routed, is_new, new_networks, route_by}
use Rattle.gw_rules.specs.Allowed.{NoneAllowed}
use Rattle.gw_rules.specs.Ask.{IsFor}
use Rattle.gw_rules.specs.RuleList.{allows}
use Rattle.gw_rules.specs.declared.format.Format.{Format}
use Rattle.gw_rules.specs.declared.operation.Operation.TheVariants.{Learn}
use Rattle.gw_rules.specs.declared.rule.Rule.{Rule}
use Rattle.gw_relay.specs.Asks.{link_asks, management_of}
use Rattle.gw_relay.specs.Cast.{cast_asks, cast_response, cast_sends, spread}
use Rattle.gw_relay.specs.Initial.{initial, resumed}
use Rattle.gw_relay.specs.Link.{answer_to, link_answer, link_change, link_response, refused}
use Rattle.gw_relay.specs.Manage.{first_learned, learn_ask, manage_asks, manage_change, manage_response, onward_sends}
use Rattle.gw_relay.specs.Message.{Message}
use Rattle.gw_relay.specs.Plain.{plain_cast_response, plain_link_response, plain_manage_response}
use Rattle.gw_relay.specs.Sends.{Sending, sent}
use Rattle.gw_relay.specs.State.{Commit, Move, Relay, is_manager, later, moved, moved_by, port_at}
use Rattle.gw_relay.specs.declared.change.Change.TheVariants.{Learnings}
use Rattle.gw_relay.specs.declared.port.Port.{Port}
use Rattle.gw_relay.specs.declared.port.PortState.{PortState}

-- ---- without the keys

-- A port that is the broadcast manager of its subnet answers frames for its tables as before.
abbrev pub PlainTables : Type 0
PlainTables =
    (rules : List Rule) (format : Format) (on : PortState) (from : BipAddr) (frame : Frame) → is_manager on.port ≡ true →
    link_response rules format on from frame ≡ plain_link_response rules format on from frame

-- It distributes broadcasts as before.
abbrev pub PlainBroadcasts : Type 0
PlainBroadcasts =
    (rules : List Rule) (format : Format) (m : Message) → is_manager m.here.port ≡ true →
    cast_response rules format m ≡ plain_cast_response rules format m

-- Where nothing is announced, network layer messages are answered as before.
abbrev pub PlainNetworkMessages : Type 0
PlainNetworkMessages =
    (rules : List Rule) (relay : Relay) (m : Message) → relay.announce ≡ false →
    manage_response rules relay m ≡ plain_manage_response rules relay m

-- ---- a port beside another broadcast manager

-- A frame for a table of such a port is refused by the code of its function; the policy isn't asked, and nothing changes.
pub record IsRefused (rules : List Rule) (format : Format) (on : PortState) (from : BipAddr) (frame : Frame) : Type 0 where
  pub asks : link_asks format on.port from frame ≡ []
  pub sends : link_answer rules format on from frame
      ≡ (if is_some (management_of frame) then map (answer_to on.port from) (refused frame) else [])
  pub change : link_change rules format on from frame ≡ None

abbrev pub NoTablesBeside : Type 0
NoTablesBeside =
    (rules : List Rule) (format : Format) (on : PortState) (from : BipAddr) (frame : Frame) → is_manager on.port ≡ false →
    IsRefused rules format on from frame

-- the refusal of a Distribute-Broadcast-To-Network, and of no other frame
abbrev pub refusal_of : Port → BipAddr → Frame → List Sending
refusal_of port from (distribute npdu) = map (answer_to port from) (refused (distribute npdu))
refusal_of port from other = []

-- Such a port asks for no broadcast, and distributes none: all that is sent is that refusal.
abbrev pub NothingIsDistributedBeside : Type 0
NothingIsDistributedBeside =
    (rules : List Rule) (format : Format) (m : Message) → is_manager m.here.port ≡ false →
    (cast_asks format m ≡ []) × (cast_sends rules format m ≡ refusal_of m.here.port m.from m.frame)

-- the port is the broadcast manager of its subnet, or has no peer and no foreign device
abbrev pub is_bare : PortState → Bool
is_bare state = is_manager state.port || (length state.bdt == 0 && length state.fdt.rows == 0)

-- each port is so, and they are numbered from a number on
abbrev pub are_bare : ℕ → List PortState → Bool
are_bare number [] = true
are_bare number (state ∷ states) = (state.port.number == number && is_bare state) && are_bare (number + 1) states

-- It is so when a gateway starts or goes on, and whatever is granted and however many seconds pass.
abbrev pub AreBareAtFirst : Type 0
AreBareAtFirst = (c : Configuration) → are_bare 1 (initial c).ports ≡ true

abbrev pub AreBareResumed : Type 0
AreBareResumed = (c : Configuration) (tables : List PortTables) (learned : Routed) (ticks : ℕ) →
    are_bare 1 (resumed c tables learned ticks).ports ≡ true

abbrev pub TablesStayBare : Type 0
TablesStayBare =
    (rules : List Rule) (relay : Relay) (number : ℕ) (on : PortState) (from : BipAddr) (frame : Frame) →
    port_at relay.ports number ≡ Some on → are_bare 1 relay.ports ≡ true →
    are_bare 1 (moved (option_map Commit (link_change rules relay.format on from frame)) relay).ports ≡ true

abbrev pub LearningStaysBare : Type 0
LearningStaysBare =
    (rules : List Rule) (relay : Relay) (m : Message) → are_bare 1 relay.ports ≡ true →
    are_bare 1 (moved (option_map Commit (manage_change rules relay m)) relay).ports ≡ true

abbrev pub TicksStayBare : Type 0
TicksStayBare = (relay : Relay) → are_bare 1 relay.ports ≡ true → are_bare 1 (later relay).ports ≡ true

-- So a broadcast by the gateway on a port beside another broadcast manager is the Original-Broadcast-NPDU alone.
abbrev pub BareBroadcasts : Type 0
BareBroadcasts =
    (state : PortState) (npdu : List ℕ) → is_manager state.port ≡ false → is_bare state ≡ true →
    spread state npdu ≡ (if nat_le (length npdu) max_len
    then sent state.port.number (state.port.broadcast ∷ []) (original_broadcast npdu) else [])

-- ---- what is announced

-- What is learned of a message is announced on the other ports alone.
abbrev pub OnwardLeavesThePort : Type 0
OnwardLeavesThePort =
    (rules : List Rule) (relay : Relay) (m : Message) →
    AllByRecursion (λ s. (s.port == m.here.port.number) ≡ false) (onward_sends rules relay m)

-- Announced onward is what an ask to learn was granted for, and what the table didn't know.
abbrev pub OnwardIsGranted : Type 0
OnwardIsGranted =
    (rules : List Rule) (relay : Relay) (m : Message) (net : ℕ) → list_any (nat_eq net) (first_learned rules relay m) ≡ true →
    (allows rules (learn_ask relay.format m net) ≡ true) × (is_new relay.routes net ≡ true)

-- So nothing is, where no such ask is allowed.
abbrev pub NothingLearnedNothingSent : Type 0
NothingLearnedNothingSent =
    (rules : List Rule) (relay : Relay) (m : Message) → NoneAllowed (IsFor Learn) rules (manage_asks relay m) →
    onward_sends rules relay m ≡ []

-- the networks that a move makes the table learn for the first time
abbrev pub first_learned_by : Move → Relay → List ℕ
first_learned_by (Commit (Learnings port next networks)) relay = new_networks relay.routes networks (route_by port next)
first_learned_by other relay = []

-- all that these moves make it learn for the first time, in order; the first move is the newest
unfoldable pub all_first_learned : List Move → Relay → List ℕ
all_first_learned [] relay = []
all_first_learned (move ∷ moves) relay = all_first_learned moves relay ++ first_learned_by move (moved_by moves relay)

-- What is announced onward of a message is what its change makes the table learn for the first time.
abbrev pub OnwardIsFirstLearned : Type 0
OnwardIsFirstLearned =
    (rules : List Rule) (relay : Relay) (m : Message) (port : ℕ) (next : BipAddr) (networks : List ℕ) →
    manage_change rules relay m ≡ Some (Learnings port next networks) →
    first_learned rules relay m ≡ first_learned_by (Commit (Learnings port next networks)) relay

-- Over any moves these are the networks that the table has after those that it had: it forgets none, so each is announced
-- onward once, and a gateway that hears of it again, from whomever and on whichever port, is silent.
abbrev pub AnnouncementsEnd : Type 0
AnnouncementsEnd =
    (moves : List Move) (relay : Relay) →
    keys_of (moved_by moves relay).routes.learned ≡ keys_of relay.routes.learned ++ all_first_learned moves relay

abbrev pub EachIsAnnouncedOnce : Type 0
EachIsAnnouncedOnce =
    (moves : List Move) (relay : Relay) → IsDistinct nat_eq (all_first_learned moves relay)
