-- How time passes at the ports: in whole seconds, each of which is a tick.
use Rattle.std.specs.Prelude.{◌≡◌, ◌⊎◌, ℕ, ◌+◌, ◌-◌, ◌*◌, ◌/◌, ◌%◌, ◌^◌, ◌≤◌, ◌<◌, ◌&&◌, ◌||◌, if◌then◌else◌, min, nat_lt, Bool, true, false, List, Result, Ok, Err}
use Rattle.std.specs.Duration.{as_nanos, max_nanos}
use Rattle.std.specs.List.{list_any}
use Rattle.gw_wire.specs.declared.wire.Got.{Got}
use Rattle.gw_wire.specs.declared.wire.Got.TheVariants as got
use Rattle.gw_wire.specs.declared.wire.WireFault.{WireFault}
use Rattle.gw_wire.specs.Ports.{Hears, IsNext, Ports}
use Rattle.gw_wire.specs.Socket.{Answer}
use Rattle.gw_wire.specs.Waking.{AreAllHolding, AreAllWoken, is_awake, is_tick_held}
use Rattle.gw_wire.specs.Watch.{HasReceived}
use Rattle.gw_wire.specs.declared.timed.TimedPorts.{TimedPorts}
use Rattle.gw_wire.specs.declared.watch.Watch.{Watch}
use Rattle.gw_wire.specs.declared.timed.TheConstants.{LONGEST_DEFERRED, MOST_UNLOOKED}

-- how many nanoseconds a second has
abbrev pub second : ℕ
second = 1000000000

-- how many whole seconds passed from one moment of the clock to another, in nanoseconds; none where the clock went back
abbrev pub seconds_between : ℕ → ℕ → ℕ
seconds_between from to = (to - from) / second

-- how many nanoseconds passed after the last of them
abbrev pub rest_between : ℕ → ℕ → ℕ
rest_between from to = (to - from) % second

-- so many ticks more are due, up to 2^63 at once
abbrev pub with_due : {S : Type 0} → ℕ → Ports S → Ports S
with_due ticks ports = record ports { ticks = min (ports.ticks + ticks) (2 ^ 63) }

-- so many seconds more, up to the end of 64 bits
abbrev pub since_more : ℕ → ℕ → ℕ
since_more seconds since = min (since + seconds) (2 ^ 64 - 1)

-- The clock gave a moment. The whole seconds until then are counted, each a tick that is due, and
-- so long is left to the next.
pub record IsCounted {S C P : Type 0} (Shows : C → ℕ → Type 0) (before after : TimedPorts S C P) (left : ℕ)
    : Type 0 where
  pub moment : ℕ
  pub recorded : Shows after.clock moment
  pub ports : after.ports ≡ with_due (seconds_between (as_nanos before.counted) moment) before.ports
  pub counted : as_nanos after.counted
      ≡ min (as_nanos before.counted + seconds_between (as_nanos before.counted) moment * second) max_nanos
  pub rest : left ≡ second - rest_between (as_nanos before.counted) moment
  pub waiter : after.waiter ≡ before.waiter
  pub unlooked : after.unlooked ≡ before.unlooked
  pub ticked : after.ticked ≡ before.ticked
  pub defers : after.defers ≡ before.defers
  pub since : after.since ≡ since_more (seconds_between (as_nanos before.counted) moment) before.since

-- these ports, and all else as it was
abbrev pub with_ports : {S C P : Type 0} → Ports (Watch S) → TimedPorts S C P → TimedPorts S C P
with_ports ports before = record before { ports = ports }

-- what may come next of ports, with what the buffer then holds, and the ports after it
abbrev pub Following : Type 0 → Type 1
Following S = Ports (Watch S) → Ports (Watch S) → List ℕ → Got → Type 0

-- nothing came
abbrev pub is_idle : Result Got WireFault → Bool
is_idle (Ok got.Idle) = true
is_idle (Ok came) = false
is_idle (Err fault) = false

-- a tick came
abbrev pub is_tick : Result Got WireFault → Bool
is_tick (Ok got.Tick) = true
is_tick (Ok came) = false
is_tick (Err fault) = false

-- what comes next of watches, and what they answer, by what their sockets say
abbrev pub WatchesNext : {S : Type 0} → (S → ℕ) → (S → Bool) → (S → S → Answer → List ℕ → Type 0) → Ports (Watch S) → Ports (Watch S)
    → List ℕ → Result Got WireFault → Type 0
WatchesNext looks empty Answered before after buffer given =
    IsNext (λ watch. watch.looks) (λ watch. watch.is_empty) (HasReceived looks empty Answered) before after buffer given

abbrev pub WatchesHear : {S : Type 0} → (S → ℕ) → (S → Bool) → (S → S → Answer → List ℕ → Type 0) → Ports (Watch S) → Ports (Watch S)
    → List ℕ → Result Got WireFault → Type 0
WatchesHear looks empty Answered before after buffer given =
    Hears (λ watch. watch.looks) (λ watch. watch.is_empty) (HasReceived looks empty Answered) before after buffer given

-- What comes next where sockets may hold a tick that is due. If none is due or held it is what comes of the ports. Else it is what a
-- socket answers; or if nothing waits at any it is what comes then, which is the tick.
pub data ComesNext {S : Type 0} (looks : S → ℕ) (empty : S → Bool) (Answered : S → S → Answer → List ℕ → Type 0)
    (before after : Ports (Watch S)) (buffer : List ℕ) (given : Result Got WireFault) : Type 0 where
  unheld : is_tick_held before ≡ false → WatchesNext looks empty Answered before after buffer given →
      ComesNext looks empty Answered before after buffer given
  before_tick : is_tick_held before ≡ true → WatchesHear looks empty Answered before after buffer given →
      is_idle given ≡ false → ComesNext looks empty Answered before after buffer given
  released : (between : Ports (Watch S)) (held : List ℕ) → is_tick_held before ≡ true →
      WatchesHear looks empty Answered before between held (Ok got.Idle) → WatchesNext looks empty Answered between after buffer given →
      ComesNext looks empty Answered before after buffer given

-- the same where no call fails
abbrev pub FollowsNext : {S : Type 0} → (S → ℕ) → (S → Bool) → (S → S → Answer → List ℕ → Type 0) → Following S
FollowsNext looks empty Answered before after buffer given = ComesNext looks empty Answered before after buffer (Ok given)

-- After a tick what is due is deferred to the next one if that is due already, unless ten seconds were counted since it was done.
abbrev pub defers : (due : Bool) → (since : ℕ) → Bool
defers due since = due && nat_lt since LONGEST_DEFERRED

-- whether what was handed in defers it, by whether that is a tick; and how many seconds were counted since it was done
abbrev pub defers_by : Bool → (due : Bool) → (since : ℕ) → Bool → Bool
defers_by true due since before = defers due since
defers_by false due since before = before

abbrev pub since_by : Bool → (due : Bool) → (since : ℕ) → ℕ
since_by true due since = if defers due since then since else 0
since_by false due since = since

-- what is due is deferred to the next tick, which is due already
abbrev pub defers_due : {S C P : Type 0} → TimedPorts S C P → Bool
defers_due timed = nat_lt 0 timed.ports.ticks && timed.defers

-- these ports, once this was handed in, and noted whether it is a tick, and whether that defers what is due
abbrev pub handing : {S C P : Type 0} → Result Got WireFault → Ports (Watch S) → TimedPorts S C P → TimedPorts S C P
handing given ports before = record before {
  ports = ports;
  ticked = is_tick given || before.ticked;
  defers = defers_by (is_tick given) (nat_lt 0 ports.ticks) before.since before.defers;
  since = since_by (is_tick given) (nat_lt 0 ports.ticks) before.since;
}

-- Ten seconds after what is due was done a tick does it, whatever is due.
abbrev pub IsDoneInTime : Type 0
IsDoneInTime = (due : Bool) (since : ℕ) → 10 ≤ since → defers due since ≡ false

-- As long as ticks defer it the seconds are counted on.
abbrev pub DeferringCountsOn : Type 0
DeferringCountsOn = (due : Bool) (since : ℕ) → defers due since ≡ true → since_by true due since ≡ since

-- It was waited so long at most, and then noted where something may have come.
pub record HasWaited {S C P : Type 0} (Waited Quiet : P → ℕ → Type 0) (before after : TimedPorts S C P) (most : ℕ)
    : Type 0 where
  pub waited : Waited after.waiter most
  pub woken : AreAllWoken (Quiet after.waiter) before.ports after.ports
  pub counted : after.counted ≡ before.counted
  pub clock : after.clock ≡ before.clock
  pub unlooked : after.unlooked ≡ 0
  pub ticked : after.ticked ≡ before.ticked
  pub defers : after.defers ≡ before.defers
  pub since : after.since ≡ before.since

-- After a tick was handed in the waiter reported, without a wait, where something came, and each socket at which something may wait
-- then holds the next tick. Else, where something may wait at a socket, seven receives pass by, of which nothing changes but their
-- count, and then the waiter reported so. Where nothing may wait, that is left to the wait after it.
pub data HasLooked {S C P : Type 0} (Waited Quiet : P → ℕ → Type 0) (before after : TimedPorts S C P) : Type 0 where
  begins : (woken : TimedPorts S C P) (ports : Ports (Watch S)) → before.ticked ≡ true → HasWaited Waited Quiet before woken 0 →
      AreAllHolding woken.ports ports → after ≡ record woken { ports = ports; ticked = false } → HasLooked Waited Quiet before after
  passed : before.ticked ≡ false → list_any is_awake before.ports.pairs ≡ true → before.unlooked < MOST_UNLOOKED →
      after ≡ record before { unlooked = before.unlooked + 1 } → HasLooked Waited Quiet before after
  looked : before.ticked ≡ false → list_any is_awake before.ports.pairs ≡ true → MOST_UNLOOKED ≤ before.unlooked →
      HasWaited Waited Quiet before after 0 → HasLooked Waited Quiet before after
  asleep : before.ticked ≡ false → list_any is_awake before.ports.pairs ≡ false → after ≡ before → HasLooked Waited Quiet before after

-- It was waited so long at most, then the seconds were counted, and this came next.
pub record IsReceivedLater {S C P : Type 0} (Shows : C → ℕ → Type 0) (Waited Quiet : P → ℕ → Type 0)
    (Follows : Following S)
    (before after : TimedPorts S C P) (most : ℕ) (buffer : List ℕ) (given : Got) : Type 0 where
  pub woken : TimedPorts S C P
  pub counted : TimedPorts S C P
  pub left : ℕ
  pub waits : HasWaited Waited Quiet before woken most
  pub counts : IsCounted Shows woken counted left
  pub follows : Follows counted.ports after.ports buffer given
  pub stays : after ≡ handing (Ok given) after.ports counted

-- The seconds were counted, it was looked for what came where that was due, and something came next;
-- or nothing did, and it was waited for as long as is left of the second.
pub data IsReceived {S C P : Type 0} (Shows : C → ℕ → Type 0) (Waited Quiet : P → ℕ → Type 0) (Follows : Following S)
    (before after : TimedPorts S C P) (buffer : List ℕ) (given : Got) : Type 0 where
  at_once : (counted looked : TimedPorts S C P) (left : ℕ) → IsCounted Shows before counted left →
      HasLooked Waited Quiet counted looked → Follows looked.ports after.ports buffer given
      → is_idle (Ok given) ≡ false → after ≡ handing (Ok given) after.ports looked →
      IsReceived Shows Waited Quiet Follows before after buffer given
  later : (counted looked idle : TimedPorts S C P) (left : ℕ) (held : List ℕ) → IsCounted Shows before counted left →
      HasLooked Waited Quiet counted looked → Follows looked.ports idle.ports held got.Idle
      → idle ≡ with_ports idle.ports looked →
      IsReceivedLater Shows Waited Quiet Follows idle after left buffer given →
      IsReceived Shows Waited Quiet Follows before after buffer given

-- ---- how long what came may go unseen, also where calls fail

-- It was waited, and the count of receives without a look begins anew.
pub record BeginsAnew {S C P : Type 0} (Waited : P → ℕ → Type 0) (after : TimedPorts S C P) : Type 0 where
  pub waiter : P
  pub most : ℕ
  pub waited : Waited waiter most
  pub unlooked : after.unlooked ≡ 0

-- That count is as it was, or it begins anew.
abbrev pub KeepsCount : {S C P : Type 0} → (P → ℕ → Type 0) → TimedPorts S C P → TimedPorts S C P → Type 0
KeepsCount Waited before after = (after.unlooked ≡ before.unlooked) ⊎ BeginsAnew Waited after

-- A receive, which may have failed: it was waited; or it is one more without a look, of seven; or
-- nothing may have waited at any socket; or no socket was asked.
pub data IsLookedInTime {S C P : Type 0} (Waited : P → ℕ → Type 0) (before after : TimedPorts S C P) : Type 0 where
  anew : BeginsAnew Waited after → IsLookedInTime Waited before after
  one_more : before.unlooked < MOST_UNLOOKED → after.unlooked ≡ before.unlooked + 1 → IsLookedInTime Waited before after
  none_awake : list_any is_awake before.ports.pairs ≡ false → after.unlooked ≡ before.unlooked
      → IsLookedInTime Waited before after
  none_asked : after.ports.pairs ≡ before.ports.pairs → after.unlooked ≡ before.unlooked
      → IsLookedInTime Waited before after
