-- What is kept of a gateway in a store: the text of its state, before what lasts is answered, and each ten ticks.
use Rattle.std.specs.Prelude.{◌≡◌, ◌⊎◌, ℕ, ◌+◌, ◌<◌, ◌≤◌, ◌^◌, ◌&&◌, ◌||◌, not, Bool, true, false, if◌then◌else◌, nat_eq, nat_le, nat_lt}
use Rattle.std.specs.Prelude.{List, [], map, Option, Some, None, ⊤, Result, Ok, Err}
use Rattle.std.specs.Cmp.Lexicographic.{pointwise}
use Rattle.gw_objects.specs.declared.value.PropertyValue.{PropertyValue}
use Rattle.gw_objects.specs.Values.{same_value}
use Rattle.gw_tables.specs.declared.routes.route.Route.{Route}
use Rattle.gw_tables.specs.declared.bdt_fdt.kept.KeptDevice.{KeptDevice}
use Rattle.gw_state.specs.declared.port.SavedPort.{SavedPort}
use Rattle.gw_tables.specs.bdt_fdt.Registrations.{same as same_address}
use Rattle.gw_state.specs.Carried.{same_entry}
use Rattle.gw_state.specs.Saved.{Origin, Saved, SavedObject, with_denials}
use Rattle.gw_state_text.specs.Text.{state_text}
use Rattle.gw_script.specs.Event.{Event}
use Rattle.gw_core.specs.History.{next}
use Rattle.gw_core.specs.Lasting.{lasts}
use Rattle.gw_core.specs.Resumed.{saved_of}
use Rattle.gw_core.specs.State.{State}
use Rattle.gw_turns.specs.Pace.{fresh_pace, is_resting, may_try, one_more, paced, rested, ticked}
use Rattle.gw_turns.specs.declared.pace.Pace.{Pace}
use Rattle.gw_turns.specs.declared.alike.SavedPart.{SavedPart}
use Rattle.gw_turns.specs.declared.alike.SavedPart.TheVariants.{Lasting, AllButTicks}
use Rattle.gw_turns.specs.declared.alike.TheConstants.{OLDEST_TICKS}
use Rattle.gw_turns.specs.declared.ahead.TheConstants.{LEAST_AHEAD, MOST_AHEAD}
use Rattle.gw_wire.specs.Store.{Holds}
use Rattle.gw_wire.specs.declared.store.StoreFault.{StoreFault}
use Rattle.gw_wire.specs.declared.store.StoreFault.TheVariants.{Memory, TooMany}

-- ---- what lasts

-- a port with its table of peers
abbrev pub lasting_port : SavedPort → SavedPort
lasting_port p = record p { devices = [] }

-- What of a saved state lasts: the ports with their tables of peers, and the objects with their slots and defaults. The
-- foreign devices, the learned routes and the counts don't.
abbrev pub lasting_of : Saved → Saved
lasting_of s = record {
  ports = map lasting_port s.ports;
  routes = [];
  objects = s.objects;
  counts = record { since = 0; ticks = 0; denials = 0 };
}

-- The store holds the text of a saved state of which the same lasts as of this state.
abbrev pub IsUpToDate : Origin → State → Option (List ℕ) → Type 0
IsUpToDate o w None = ⊤
IsUpToDate o w (Some held) = (s : Saved) × (held ≡ state_text s) × (lasting_of s ≡ lasting_of (saved_of o w))

-- ---- whether the same lasts

-- two ports are one, with the same table of peers
abbrev pub is_same_port : SavedPort → SavedPort → Bool
is_same_port a b =
    nat_eq a.network b.network
    && (same_address a.address b.address && (pointwise same_entry a.peers b.peers && pointwise same_entry a.entries b.entries))

abbrev pub is_same_slot : Option PropertyValue → Option PropertyValue → Bool
is_same_slot None None = true
is_same_slot (Some a) (Some b) = same_value a b
is_same_slot _ _ = false

-- two objects are one, with the same slots and default
abbrev pub is_same_object : SavedObject → SavedObject → Bool
is_same_object a b =
    nat_eq a.object.kind b.object.kind
    && (nat_eq a.object.instance b.object.instance
    && (same_value a.configured b.configured
    && (same_value a.slots.default b.slots.default && pointwise is_same_slot a.slots.slots b.slots.slots)))

-- of two saved states the same lasts
abbrev pub lasts_alike : Saved → Saved → Bool
lasts_alike a b = pointwise is_same_port a.ports b.ports && pointwise is_same_object a.objects b.objects

-- so it is exactly if what lasts of them is equal
abbrev pub AlikeIsEqual : Type 0
AlikeIsEqual = (a b : Saved) → lasts_alike a b ≡ true → lasting_of a ≡ lasting_of b

abbrev pub EqualIsAlike : Type 0
EqualIsAlike = (a b : Saved) → lasting_of a ≡ lasting_of b → lasts_alike a b ≡ true

-- ---- whether all is the same but the ticks

-- a foreign device that is kept after so many ticks, with the tick at which it ends in the place of how many are left
abbrev pub ending : (since : ℕ) → KeptDevice → KeptDevice
ending since d = record d { left = since + d.left }

abbrev pub ending_port : (since : ℕ) → SavedPort → SavedPort
ending_port since p = record p { devices = map (ending since) p.devices }

-- what is saved, with the tick at which each registration ends, and without the ticks that there were
abbrev pub but_ticks : Saved → Saved
but_ticks s = record s {
  ports = map (ending_port s.counts.since) s.ports;
  counts = record { since = 0; ticks = 0; denials = s.counts.denials };
}

abbrev pub is_same_device : KeptDevice → KeptDevice → Bool
is_same_device a b = same_address a.address b.address && (nat_eq a.time_to_live b.time_to_live && nat_eq a.left b.left)

-- two foreign devices, each kept after so many ticks, are one, and end at the same tick
abbrev pub ends_alike : (since other : ℕ) → KeptDevice → KeptDevice → Bool
ends_alike since other a b = is_same_device (ending since a) (ending other b)

-- so it is for those of two ports, one by one
abbrev pub are_ending_alike : (since other : ℕ) → SavedPort → SavedPort → Bool
are_ending_alike since other a b = pointwise (ends_alike since other) a.devices b.devices

abbrev pub is_same_route : ℕ × Route → ℕ × Route → Bool
is_same_route a b = nat_eq a.0 b.0 && (nat_eq a.1.port b.1.port && same_address a.1.next b.1.next)

-- two saved states differ at most in their ticks
abbrev pub alike_but_ticks : Saved → Saved → Bool
alike_but_ticks a b =
    lasts_alike a b
    && (pointwise (are_ending_alike a.counts.since b.counts.since) a.ports b.ports
    && (pointwise is_same_route a.routes b.routes && nat_eq a.counts.denials b.counts.denials))

-- if they are alike but for the ticks, they are equal but for the ticks
abbrev pub AlikeButTicksIsEqual : Type 0
AlikeButTicksIsEqual = (a b : Saved) → alike_but_ticks a b ≡ true → but_ticks a ≡ but_ticks b

-- and if they are equal but for the ticks, they are alike: only a registration that is new, renewed or gone differs
abbrev pub EqualButTicksIsAlike : Type 0
EqualButTicksIsAlike = (a b : Saved) → but_ticks a ≡ but_ticks b → alike_but_ticks a b ≡ true

-- ---- whether it is fresh

-- what is due was made fewer than 600 ticks after what is kept
abbrev pub is_fresh : (kept due : Saved) → Bool
is_fresh kept due = nat_lt due.counts.ticks (kept.counts.ticks + OLDEST_TICKS)

-- ---- which number of a denial it has

-- A number is ahead of that of the last denial: none of the next 500 has a greater one, or there is no greater one.
abbrev pub is_ahead : (number denials : ℕ) → Bool
is_ahead number denials = nat_le (denials + LEAST_AHEAD) number || nat_eq number (2 ^ 63)

-- 1,000 more than that of the last denial, as far as it is counted
abbrev pub far_ahead : ℕ → ℕ
far_ahead denials = if nat_le (denials + MOST_AHEAD) (2 ^ 63) then denials + MOST_AHEAD else 2 ^ 63

-- the number that a text has if it is written now: that of the text which is kept, while it is ahead
abbrev pub number_for : Result Saved StoreFault → (denials : ℕ) → ℕ
number_for (Ok s) denials = if is_ahead s.counts.denials denials then s.counts.denials else far_ahead denials
number_for (Err fault) denials = far_ahead denials

-- what is due to be kept of a state: the state with that number
abbrev pub numbered : Result Saved StoreFault → Saved → Saved
numbered kept s = with_denials s (number_for kept s.counts.denials)

-- a number that is ahead is one that no denial has before 500 more came
abbrev pub AheadIsUnreached : Type 0
AheadIsUnreached = (number denials later : ℕ) → is_ahead number denials ≡ true → later ≤ denials + 500 → later ≤ 2 ^ 63 → later ≤ number

-- ---- a keeper

-- the store; what was configured of the gateway; what the store holds the text of, or why the last try failed; how many tries failed
-- so far; and how often the store is tried
pub record Keeping (S : Type 0) : Type 0 where
  pub store : S
  pub origin : Origin
  pub kept : Result Saved StoreFault
  pub unkept : ℕ
  pub pace : Pace

-- a keeper that kept nothing yet
abbrev pub nothing_kept : {S : Type 0} → S → Origin → Keeping S
nothing_kept store origin = record { store = store; origin = origin; kept = Err Memory; unkept = 0; pace = fresh_pace }

-- what is due to be kept of a gateway in this state
abbrev pub due_of : {S : Type 0} → Keeping S → State → Saved
due_of k w = numbered k.kept (saved_of k.origin w)

-- what a store holds, if the last try didn't fail
abbrev pub IsHeld : Option (List ℕ) → Result Saved StoreFault → Type 0
IsHeld held (Ok s) = Holds held (state_text s)
IsHeld held (Err fault) = ⊤

-- why the last try failed, if it did
abbrev pub failing_of : Result Saved StoreFault → Option StoreFault
failing_of (Ok s) = None
failing_of (Err fault) = Some fault

-- A try to keep this: the store holds its text then, or it failed, and the store holds its text or what it held before.
pub record IsKept {S : Type 0} (held : S → Option (List ℕ)) (k : Keeping S) (due : Saved) (l : Keeping S) : Type 0 where
  pub kept : l.kept ≡ Ok due
  pub text : Holds (held l.store) (state_text due)
  pub origin : l.origin ≡ k.origin
  pub unkept : l.unkept ≡ k.unkept
  pub pace : l.pace ≡ paced true k.pace

pub record IsUnkept {S : Type 0} (held : S → Option (List ℕ)) (k : Keeping S) (due : Saved) (l : Keeping S) : Type 0 where
  pub fault : StoreFault
  pub kept : l.kept ≡ Err fault
  pub text : (held l.store ≡ held k.store) ⊎ Holds (held l.store) (state_text due)
  pub origin : l.origin ≡ k.origin
  pub unkept : l.unkept ≡ one_more k.unkept

-- A try that failed, after which the store rests.
pub record HasFailed {S : Type 0} (held : S → Option (List ℕ)) (k : Keeping S) (due : Saved) (l : Keeping S) : Type 0 where
  pub unkept : IsUnkept held k due l
  pub pace : l.pace ≡ paced false k.pace

-- what a try does, by whether the state is kept then
abbrev pub Tries : {S : Type 0} → (S → Option (List ℕ)) → Keeping S → Saved → Keeping S → Bool → Type 0
Tries held k due l true = IsKept held k due l
Tries held k due l false = HasFailed held k due l

-- a try to keep a state
abbrev pub IsTried : {S : Type 0} → (S → Option (List ℕ)) → Keeping S → State → Keeping S → Type 0
IsTried held k w l = (kept : Bool) × Tries held k (due_of k w) l kept

-- the last one: of a gateway that ends the number of its last denial is kept
abbrev pub IsTriedLast : {S : Type 0} → (S → Option (List ℕ)) → Keeping S → State → Keeping S → Type 0
IsTriedLast held k w l = (kept : Bool) × Tries held k (saved_of k.origin w) l kept

-- ---- what is kept only if it differs

-- what of a state that is due is the same as of the one that is kept: what lasts; or all but the ticks, while that is fresh
abbrev pub is_same : SavedPart → (kept due : Saved) → Bool
is_same Lasting kept due = lasts_alike kept due
is_same AllButTicks kept due = alike_but_ticks kept due && is_fresh kept due

-- this of a state is kept
abbrev pub is_kept : SavedPart → Result Saved StoreFault → Saved → Bool
is_kept part (Ok s) due = is_same part s due
is_kept part (Err fault) due = false

-- the state is kept, without a try if this of it was
abbrev pub KeptBy : {S : Type 0} → Bool → (S → Option (List ℕ)) → Keeping S → Saved → Keeping S → Type 0
KeptBy true held k due l = l ≡ k
KeptBy false held k due l = IsKept held k due l

-- A state is kept if this of it differs from what is kept, by whether it is kept then.
abbrev pub KeepsChanged : {S : Type 0} → SavedPart → (S → Option (List ℕ)) → Keeping S → Saved → Keeping S → Bool → Type 0
KeepsChanged part held k due l true = KeptBy (is_kept part k.kept due) held k due l
KeepsChanged part held k due l false = HasFailed held k due l

-- ---- at an event

-- why what lasts is withheld without a try: what the last try failed by, or there were too many
abbrev pub spared_by : Result Saved StoreFault → StoreFault
spared_by (Ok s) = TooMany
spared_by (Err fault) = fault

-- without a try, which counts as one that failed
abbrev pub spared : {S : Type 0} → Keeping S → Keeping S
spared k = record k { kept = Err (spared_by k.kept); unkept = one_more k.unkept }

-- what lasts is kept, by whether the store may be tried; if it may not, it isn't called, and what lasts is withheld
abbrev pub KeepsBy : {S : Type 0} → Bool → (S → Option (List ℕ)) → Keeping S → Saved → Keeping S → Bool → Type 0
KeepsBy true held k due l passes = KeepsChanged Lasting held k due l passes
KeepsBy false held k due l passes = (l ≡ spared k) × (passes ≡ false)

abbrev pub PassesBy : {S : Type 0} → Bool → (S → Option (List ℕ)) → Keeping S → Saved → Keeping S → Bool → Type 0
PassesBy true held k due l passes = KeepsBy (may_try k.pace) held k due l passes
PassesBy false held k due l passes = (l ≡ k) × (passes ≡ true)

-- What a keeper does about an event: nothing if it doesn't last; else what lasts of the state after it is kept, or the
-- event isn't answered. While the store rests, and after 64 tries since the last tick, it isn't answered, and the store isn't called.
abbrev pub HasPassed : {S : Type 0} → (S → Option (List ℕ)) → Keeping S → State → Event → Keeping S → Bool → Type 0
HasPassed held k w event l passes = PassesBy (lasts w event) held k (due_of k (next w event)) l passes

-- ---- at a tick

-- the text is that of a state ten ticks ago, or its number isn't ahead; or the last try failed, and the rest after it ends with this
-- tick
abbrev pub is_due : Result Saved StoreFault → Pace → State → Bool
is_due (Ok s) pace w = nat_le (s.counts.ticks + 10) w.ticks || not (is_ahead s.counts.denials w.denials)
is_due (Err fault) pace w = nat_le pace.left 1

-- by whether it is due; if not, it rests one tick less
abbrev pub TicksBy : {S : Type 0} → Bool → (S → Option (List ℕ)) → Keeping S → Saved → Keeping S → Type 0
TicksBy true held k due l = (kept : Bool) × KeepsChanged AllButTicks held k due l kept
TicksBy false held k due l = l ≡ record k { pace = rested k.pace }

-- what is due at a tick, in this state: if one is due, it keeps the state unless only its ticks differ and what is kept is fresh
abbrev pub KeepsDue : {S : Type 0} → (S → Option (List ℕ)) → Keeping S → State → Keeping S → Type 0
KeepsDue held k w l = TicksBy (is_due k.kept k.pace w) held k (due_of k w) l

-- what a keeper does at a tick, in this state: what is due, and from then on tries are counted anew
abbrev pub KeepsAtTick : {S : Type 0} → (S → Option (List ℕ)) → Keeping S → State → Keeping S → Type 0
KeepsAtTick {S} held k w l = (done : Keeping S) × KeepsDue held k w done × (l ≡ record done { pace = ticked done.pace })

-- What is kept differs only in its ticks, and is fresh.
pub record IsAsKept (s due : Saved) : Type 0 where
  pub same : but_ticks s ≡ but_ticks due
  pub fresh : is_fresh s due ≡ true

-- The text is that of a state fewer than ten ticks ago, or of one that differs only in its ticks and is fresh; and its number is ahead.
-- Or the last try failed.
abbrev pub IsRecent : Result Saved StoreFault → Saved → Type 0
IsRecent (Ok s) due =
    ((due.counts.ticks < s.counts.ticks + 10) ⊎ IsAsKept s (numbered (Ok s) due))
    × (is_ahead s.counts.denials due.counts.denials ≡ true)
IsRecent (Err fault) due = ⊤

-- so it is after each tick
abbrev pub TicksKeepRecent : {S : Type 0} → (S → Option (List ℕ)) → Type 0
TicksKeepRecent {S} held = (k l : Keeping S) (w : State) → KeepsAtTick held k w l → IsRecent l.kept (saved_of l.origin w)

-- The text is that of a state fewer than 600 ticks ago, or the last try failed.
abbrev pub IsYoung : Result Saved StoreFault → Saved → Type 0
IsYoung (Ok s) due = due.counts.ticks < s.counts.ticks + 600
IsYoung (Err fault) due = ⊤

-- The number of the text is ahead, or the last try failed.
abbrev pub HasAhead : Result Saved StoreFault → (denials : ℕ) → Type 0
HasAhead (Ok s) denials = is_ahead s.counts.denials denials ≡ true
HasAhead (Err fault) denials = ⊤

-- so it is after each tick
abbrev pub TicksKeepAhead : {S : Type 0} → (S → Option (List ℕ)) → Type 0
TicksKeepAhead {S} held = (k l : Keeping S) (w : State) → KeepsAtTick held k w l → HasAhead l.kept w.denials

-- the text is young wherever it is recent
abbrev pub RecentIsYoung : Type 0
RecentIsYoung = (kept : Result Saved StoreFault) (due : Saved) → IsRecent kept due → IsYoung kept due

-- and after each tick
abbrev pub TicksKeepYoung : {S : Type 0} → (S → Option (List ℕ)) → Type 0
TicksKeepYoung {S} held = (k l : Keeping S) (w : State) → KeepsAtTick held k w l → IsYoung l.kept (saved_of l.origin w)

-- What differs only in its ticks isn't written again before.
abbrev pub FreshIsSpared : {S : Type 0} → (S → Option (List ℕ)) → Type 0
FreshIsSpared {S} held = (k l : Keeping S) (w : State) (s : Saved) →
    KeepsChanged AllButTicks held k (due_of k w) l true → k.kept ≡ Ok s → but_ticks s ≡ but_ticks (due_of k w) →
    w.ticks < s.counts.ticks + 600 → l ≡ k

-- ---- how often the store is tried

-- An event leaves the store as it was, and the count of tries; or it tries it once, and there were fewer than 64 tries since the last
-- tick.
abbrev pub EventsTryFew : {S : Type 0} → (S → Option (List ℕ)) → Type 0
EventsTryFew {S} held = (k l : Keeping S) (w : State) (event : Event) (passes : Bool) → HasPassed held k w event l passes →
    ((l.store ≡ k.store) × (l.pace.replaces ≡ k.pace.replaces))
    ⊎ ((k.pace.replaces < 64) × (l.pace.replaces ≡ k.pace.replaces + 1))

-- So between two ticks there are at most 64 of them.
abbrev pub TicksBeginAnew : {S : Type 0} → (S → Option (List ℕ)) → Type 0
TicksBeginAnew {S} held = (k l : Keeping S) (w : State) → KeepsAtTick held k w l → l.pace.replaces ≡ 0

-- While the store rests, it isn't called at an event that lasts, and the event isn't answered.
abbrev pub FailingIsSpared : {S : Type 0} → (S → Option (List ℕ)) → Type 0
FailingIsSpared {S} held = (k l : Keeping S) (w : State) (event : Event) (passes : Bool) → HasPassed held k w event l passes →
    lasts w event ≡ true → is_resting k.pace ≡ true → (l.store ≡ k.store) × (l.pace ≡ k.pace) × (passes ≡ false)

-- Nor is it called at a tick while more than one tick of its rest is left, and then one less is left.
abbrev pub RestsAtTicks : {S : Type 0} → (S → Option (List ℕ)) → Type 0
RestsAtTicks {S} held = (k l : Keeping S) (w : State) (fault : StoreFault) → KeepsAtTick held k w l → k.kept ≡ Err fault →
    1 < k.pace.left → (l.store ≡ k.store) × (l.kept ≡ k.kept) × (l.pace.left + 1 ≡ k.pace.left)

-- At the tick at which its rest ends it is tried: then the state is kept and no rest is left, or it rests longer.
abbrev pub RestsEnd : {S : Type 0} → (S → Option (List ℕ)) → Type 0
RestsEnd {S} held = (k l : Keeping S) (w : State) (fault : StoreFault) → KeepsAtTick held k w l → k.kept ≡ Err fault →
    k.pace.left ≤ 1 → (kept : Bool) × (l.pace ≡ ticked (paced kept k.pace))
