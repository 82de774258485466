-- A stretch of serving under a guard, which judges each event that was taken and logged before anything of it is sent.
use Rattle.std.specs.Prelude.{◌≡◌, ℕ, ◌+◌, ◌-◌, ◌*◌, ◌^◌, ◌<◌, ◌≤◌, Bool, true, false, List, [], ◌∷◌, ◌++◌, length}
use Rattle.std.specs.Prelude.{Result, Ok, Err}
use Rattle.std.specs.Io.KnownBytes.{Appends}
use Rattle.gw_script.specs.Event.{Event}
use Rattle.gw_script.specs.Event as event
use Rattle.gw_core.specs.Effects.{effects_at}
use Rattle.gw_core.specs.History.{state_from}
use Rattle.gw_core.specs.State.{State}
use Rattle.gw_turns.specs.Serve.{EndsBy, IsTakenLast, LeadTo, Scene, Try, Turn, count_fault, counts_after}
use Rattle.gw_turns.specs.Serve.{empty_turn, events_of}
use Rattle.gw_turns.specs.Serve.{failed_turn, lines_of, lost_event, taken_event, turn_events}
use Rattle.gw_turns.specs.Tally.{IsBelow, tally_from}
use Rattle.gw_turns.specs.declared.serving.ServeFault.{ServeFault}
use Rattle.gw_turns.specs.declared.serving.ServeFault.TheVariants.{Log, Memory, CountEnd}
use Rattle.gw_turns.specs.declared.serving.Served.{Served}
use Rattle.gw_turns.specs.declared.stretch.StretchEnd.{StretchEnd}
use Rattle.gw_turns.specs.declared.stretch.StretchEnd.TheVariants.{Turns, Tick, Withheld}
use Rattle.gw_turns.specs.declared.tally.DropTally.{DropTally}

-- ---- one event

-- The last event was taken, the log has the lines of its denials, and nothing of what it sends was tried.
pub record IsLoggedLast (before : Scene) (event : Event) (after : Scene) : Type 0 where
  pub taken : IsTakenLast before event after
  pub log : Appends before.log after.log (lines_of (effects_at before.gateway event).denials)

-- the counts after an event that was taken, of which nothing was tried
abbrev pub count_taken : Served → Served
count_taken s = record s { turns = s.turns + 1; taken = s.taken + 1 }

-- ---- turns, one after the other

-- what there is at a moment: the gateway, the log and the wire; the guard; and what was counted so far
pub record Moment (G : Type 0) : Type 0 where
  pub scene : Scene
  pub guard : G
  pub served : Served
  pub tally : DropTally

abbrev pub moment : {G : Type 0} → Scene → G → Served → DropTally → Moment G
moment now guard served tally = record { scene = now; guard = guard; served = served; tally = tally }

-- The event that is taken in a turn is passed, and its datagrams may go; without an event the guard stays as it is.
abbrev pub GuardsTurn : {G : Type 0} → (Passes : G → State → Event → G → Bool → Type 0) → G → State → Turn → G → Type 0
GuardsTurn Passes g w empty_turn then = then ≡ g
GuardsTurn Passes g w failed_turn then = then ≡ g
GuardsTurn Passes g w (lost_event event) then = then ≡ g
GuardsTurn Passes g w (taken_event event tries) then = Passes g w event then true

-- so is the event of each turn, in the state that those before it lead to
unfoldable pub AreGuarded : {G : Type 0} → (Passes : G → State → Event → G → Bool → Type 0) → G → State → List Turn → G → Type 0
AreGuarded Passes g w [] last = last ≡ g
AreGuarded {G} Passes g w (turn ∷ turns) last =
    (then : G) × GuardsTurn Passes g w turn then × AreGuarded Passes then (state_from w (turn_events turn)) turns last

-- What these turns lead to: what `serve` says of them, each event passed the guard before its datagrams were tried, and
-- all is counted on.
pub record GoOn {G : Type 0} (Passes : G → State → Event → G → Bool → Type 0) (before : Moment G) (turns : List Turn)
    (after : Moment G)
    : Type 0 where
  pub went : LeadTo before.scene turns after.scene
  pub guarded : AreGuarded Passes before.guard before.scene.gateway turns after.guard
  pub counts : after.served ≡ counts_after before.served turns
  pub tally : after.tally ≡ tally_from before.scene.gateway before.tally (events_of turns)

-- ---- the ends

-- all turns were done, and no tick was taken
pub record EndsAtTurns {G : Type 0} (Passes : G → State → Event → G → Bool → Type 0) (count : ℕ)
    (before after : Moment G) : Type 0 where
  pub turns : List Turn
  pub all : length turns ≡ count
  pub went : GoOn Passes before turns after
  pub ticks : after.scene.gateway.ticks ≡ before.scene.gateway.ticks

-- a tick was taken in the last turn, and none before
pub record EndsAtTick {G : Type 0} (Passes : G → State → Event → G → Bool → Type 0) (count : ℕ)
    (before after : Moment G) : Type 0 where
  pub turns : List Turn
  pub fewer : length turns < count
  pub tries : List Try
  pub went : GoOn Passes before (turns ++ taken_event event.Tick tries ∷ []) after
  pub ticks : after.scene.gateway.ticks ≡ before.scene.gateway.ticks + 1

-- The guard didn't let the datagrams of the last event go: the event was taken and logged, and nothing of what it sends was
-- tried.
pub record IsWithheld {G : Type 0} (Passes : G → State → Event → G → Bool → Type 0) (before : Moment G) (event : Event)
    (after : Moment G)
    : Type 0 where
  pub logged : IsLoggedLast before.scene event after.scene
  pub passes : Passes before.guard before.scene.gateway event after.guard false
  pub counts : after.served ≡ count_taken before.served
  pub tally : after.tally ≡ tally_from before.scene.gateway before.tally (event ∷ [])

pub record EndsWithheld {G : Type 0} (Passes : G → State → Event → G → Bool → Type 0) (count : ℕ)
    (before after : Moment G) : Type 0 where
  pub turns : List Turn
  pub fewer : length turns < count
  pub then : Moment G
  pub went : GoOn Passes before turns then
  pub event : Event
  pub last : IsWithheld Passes then event after

-- What the guard did about an event that ended in a fault: it passed one at whose lines the log failed, and whatever it answered
-- nothing was sent; about another it wasn't asked.
abbrev pub IsPassedAt : {G : Type 0} → (Passes : G → State → Event → G → Bool → Type 0) → ServeFault → G → State → Event → G → Type 0
IsPassedAt Passes Log g w event then = (answer : Bool) × Passes g w event then answer
IsPassedAt Passes Memory g w event then = then ≡ g
IsPassedAt Passes CountEnd g w event then = then ≡ g

-- the state up to which the guard was asked, if the last event ended in a fault: that after the event if the log failed, and else
-- that before it
abbrev pub asked_until : ServeFault → (before after : State) → State
asked_until Log before after = after
asked_until Memory before after = before
asked_until CountEnd before after = before

-- the last event ended in a fault; if the log failed, this is what it lacks of the event's lines
pub record IsFaulty {G : Type 0} (Passes : G → State → Event → G → Bool → Type 0) (fault : ServeFault) (unwritten : List ℕ)
    (before : Moment G) (event : Event) (after : Moment G) : Type 0 where
  pub last : EndsBy fault unwritten before.scene event after.scene
  pub guard : IsPassedAt Passes fault before.guard before.scene.gateway event after.guard
  pub counts : after.served ≡ count_fault before.served fault
  pub tally : after.tally ≡ before.tally

pub record EndsFaulty {G : Type 0} (Passes : G → State → Event → G → Bool → Type 0) (count : ℕ) (before : Moment G)
    (fault : ServeFault) (unwritten : List ℕ)
    (after : Moment G) : Type 0 where
  pub turns : List Turn
  pub fewer : length turns < count
  pub then : Moment G
  pub went : GoOn Passes before turns then
  pub event : Event
  pub last : IsFaulty Passes fault unwritten then event after

-- what a stretch of at most so many turns leads to, by its answer; if the log failed, this is what it lacks of the last event's lines
abbrev pub EndsStretch : {G : Type 0} → (Passes : G → State → Event → G → Bool → Type 0) → ℕ → Moment G
    → Result StretchEnd ServeFault → (unwritten : List ℕ) → Moment G → Type 0
EndsStretch Passes count before (Ok Turns) unwritten after = EndsAtTurns Passes count before after
EndsStretch Passes count before (Ok Tick) unwritten after = EndsAtTick Passes count before after
EndsStretch Passes count before (Ok Withheld) unwritten after = EndsWithheld Passes count before after
EndsStretch Passes count before (Err fault) unwritten after = EndsFaulty Passes count before fault unwritten after

-- ---- what can be counted

-- how often the wire was called, but for receives that didn't fail
abbrev pub wire_counts : Served → ℕ
wire_counts s = s.recv_failures + s.sends + s.send_failures

-- so many turns more can be counted, after those that were
pub record CanCount (s : Served) (t : DropTally) (wire_failures more : ℕ) : Type 0 where
  pub turns : s.turns + more < 2 ^ 63
  pub each : s.taken + s.memory_drops + s.recv_failures ≤ s.turns
  pub calls : wire_counts s ≤ s.turns * (2 ^ 64 - 1)
  pub failures : wire_failures < 2 ^ 127 + s.recv_failures + s.send_failures
  pub below : IsBelow s.taken t
