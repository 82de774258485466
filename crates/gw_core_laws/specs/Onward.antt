-- What a gateway does from any state on, whatever came before: also one that took over what another one left, perhaps under
-- another configuration. After a history these laws are those of a gateway that began new.
use Rattle.std.specs.Prelude.{◌≡◌, ℕ, ◌+◌, Bool, true, false, List, [], ◌∷◌, length, map, take, zip, count_by, IfSome, Some, slice_get}
use Rattle.std.specs.List.{Contains}
use Rattle.std.specs.Option.{option_map}
use Rattle.gw_addr.specs.declared.station.Source.{Source}
use Rattle.gw_codecs.specs.tags.Object.{Object}
use Rattle.gw_core.specs.Asks.{asks}
use Rattle.gw_core.specs.History.{log, run_from, state_from, next}
use Rattle.gw_core.specs.Marked.{kept}
use Rattle.gw_core.specs.Receive.{receive}
use Rattle.gw_core.specs.State.{State}
use Rattle.gw_core_laws.specs.FormatThree.{AreTakenAlike, HaveNoStations, NameNoStation, before, claimed_from, unstationed}
use Rattle.gw_core_laws.specs.FormatThree.{unstationed_effects}
use Rattle.gw_core_laws.specs.FormatOne.{before_two}
use Rattle.gw_core_laws.specs.FormatTwo.{asked_by, asked_from, before_three, left_by, run_by}
use Rattle.gw_core_laws.specs.Laws.{is_tick, numbers_from, under}
use Rattle.gw_core_laws.specs.NoLeak.{AreBlind, IsQuiet, IsWriteOf, NoReadAllowedOn, claim, seen}
use Rattle.gw_core_laws.specs.Plain.{plain_asked, plain_left, plain_run}
use Rattle.gw_relay.specs.Announcement.{announcements}
use Rattle.gw_relay.specs.Plain.{is_plain}
use Rattle.gw_rules.specs.Format.{names_stations}
use Rattle.gw_rules.specs.declared.format.Format.TheVariants.{One, Two, Three}
use Rattle.gw_script.specs.Event.{Event}

-- ---- counts

-- The ticks grow by the ticks that come, both those of the gateway and those that its tables have seen.
abbrev pub TicksGoOn : Type 0
TicksGoOn = (w : State) (l : List Event) →
    ((state_from w l).ticks ≡ w.ticks + count_by is_tick l) × ((state_from w l).relay.ticks ≡ w.relay.ticks + count_by is_tick l)

-- The number of the last denial grows by the length of the log of what comes.
abbrev pub DenialsGoOn : Type 0
DenialsGoOn = (w : State) (l : List Event) → (state_from w l).denials ≡ w.denials + length (log (run_from w l))

-- Its denials are numbered one after the other, from one more than the last one before.
abbrev pub LogGoesOn : Type 0
LogGoesOn = (w : State) (l : List Event) →
    map (λ d. d.number) (log (run_from w l)) ≡ numbers_from (w.denials + 1) (length (log (run_from w l)))

-- ---- formats

-- From a state of the first format on every list of events asks, does and leaves what a definition without later ones says,
abbrev pub FormatOneGoesOn : Type 0
FormatOneGoesOn = (w : State) (l : List Event) → w.relay.format ≡ One → is_plain w.relay ≡ true →
    (asked_from w l ≡ asked_by before_two w l) × (run_from w l ≡ run_by before_two w l) × (state_from w l ≡ left_by before_two w l)

-- from one of the first two what a definition without the third says,
abbrev pub FormatTwoGoesOn : Type 0
FormatTwoGoesOn = (w : State) (l : List Event) → names_stations w.relay.format ≡ false → is_plain w.relay ≡ true →
    (asked_from w l ≡ asked_by before_three w l) × (run_from w l ≡ run_by before_three w l)
    × (state_from w l ≡ left_by before_three w l)

-- and from one of the third without stations what it asks, does and leaves under the second, but for senders and stations.
abbrev pub FormatThreeGoesOn : Type 0
FormatThreeGoesOn = (w : State) (l : List Event) → w.relay.format ≡ Three → HaveNoStations w.relay.ports → NameNoStation w.rules →
    AreTakenAlike w l →
    (map (map unstationed) (asked_from w l) ≡ map before (zip (claimed_from w l) (asked_from (under Two w) l)))
    × (map unstationed_effects (run_from w l) ≡ run_from (under Two w) l) × (under Two (state_from w l) ≡ state_from (under Two w) l)

-- No event changes the format.
abbrev pub FormatStaysOn : Type 0
FormatStaysOn = (w : State) (l : List Event) → (state_from w l).relay.format ≡ w.relay.format

-- From a state without the keys `bbmd` and `announce` it is what a definition without them says.
abbrev pub PlainGoesOn : Type 0
PlainGoesOn = (w : State) (l : List Event) → is_plain w.relay ≡ true →
    (asked_from w l ≡ plain_asked w l) × (run_from w l ≡ plain_run w l) × (state_from w l ≡ plain_left w l)

-- ---- what is left out

-- each event of a list that is marked is such a one, after the events before it
abbrev pub LeavesOutFrom : (State → Event → Type 0) → State → List Bool → List Event → Type 0
LeavesOutFrom Such w marks [] = Unit {0}
LeavesOutFrom Such w [] (e ∷ l) = Unit {0}
LeavesOutFrom Such w (true ∷ marks) (e ∷ l) = Such w e × LeavesOutFrom Such (next w e) marks l
LeavesOutFrom Such w (false ∷ marks) (e ∷ l) = LeavesOutFrom Such (next w e) marks l

-- the event at a place of the shorter list is seen to do what it does in the longer one
abbrev pub SeenAlikeFrom : State → List Bool → List Event → ℕ → Type 0
SeenAlikeFrom w marks l place =
    option_map seen (slice_get (run_from w (kept marks l)) place) ≡ option_map seen (slice_get (kept marks (run_from w l)) place)

-- the state before the event at a place of the shorter list
abbrev pub state_at : State → List Bool → List Event → ℕ → State
state_at w marks l place = state_from w (take place (kept marks l))

-- Where all that is left out are writes of an object, an event is seen to do the same if no ask of it to read the object of
-- the device's own network is allowed,
abbrev pub WritesGoUnread : Type 0
WritesGoUnread = (w : State) (o : Object) (marks : List Bool) (l : List Event) → LeavesOutFrom (IsWriteOf o) w marks l →
    (place : ℕ) (e : Event) → slice_get (kept marks l) place ≡ Some e →
    NoReadAllowedOn w.device.configured.device.network w.rules o (asks (state_at w marks l place) e) → SeenAlikeFrom w marks l place

-- and so if it claims to come from one of those that may not read it.
abbrev pub WritesGoHidden : Type 0
WritesGoHidden = (w : State) (sources : List Source) (o : Object) (marks : List Bool) (l : List Event) →
    AreBlind w.relay.format w.rules sources o → LeavesOutFrom (IsWriteOf o) w marks l
    → (place : ℕ) (e : Event) → slice_get (kept marks l) place ≡ Some e
    → IfSome (claim (receive (state_at w marks l place) e)) (Contains sources) → SeenAlikeFrom w marks l place

-- Where all that is left out are datagrams that may change nothing, every event is seen to do the same.
abbrev pub QuietGoesUnseen : Type 0
QuietGoesUnseen = (w : State) (marks : List Bool) (l : List Event) → LeavesOutFrom IsQuiet w marks l →
    map seen (run_from w (kept marks l)) ≡ map seen (kept marks (run_from w l))

-- Where all that is left out are writes of an object, the same is announced.
abbrev pub AnnouncementsGoUnread : Type 0
AnnouncementsGoUnread = (w : State) (o : Object) (marks : List Bool) (l : List Event) → LeavesOutFrom (IsWriteOf o) w marks l →
    announcements (state_from w (kept marks l)).relay ≡ announcements (state_from w l).relay
