-- The result of serving a wire: turn by turn what came, what was taken, logged and sent, and the scene then.
use Rattle.std.specs.Prelude.{◌≡◌, ◌⊎◌, ℕ, ◌+◌, ◌-◌, ◌^◌, ◌<◌, ◌≤◌, Bool, true, false, not, List, [], ◌∷◌, ◌++◌, length, map, count_by}
use Rattle.std.specs.Prelude.{Option, Result, Ok}
use Rattle.std.specs.Prelude.{Err, ⊤, if◌then◌else◌}
use Rattle.std.specs.List.{flat_map}
use Rattle.std.specs.Io.KnownBytes.{Appends}
use Rattle.gw_audit.specs.declared.denial.Denial.{Denial}
use Rattle.gw_audit.specs.Line.{line_text}
use Rattle.gw_script.specs.Event.{Datagram, Event, Tick}
use Rattle.gw_core.specs.declared.effects.Effects.{Effects}
use Rattle.gw_relay.specs.Sends.{Sending}
use Rattle.gw_turns.specs.Pace.{one_more}
use Rattle.gw_turns.specs.Ports.{nothing_sent, sent_at}
use Rattle.gw_turns.specs.declared.ports.PortSends.{PortSends}
use Rattle.gw_turns.specs.declared.serving.Served.{Served}
use Rattle.gw_turns.specs.declared.serving.ServeFault.{ServeFault}
use Rattle.gw_turns.specs.declared.serving.ServeFault.TheVariants.{Log, Memory, CountEnd}
use Rattle.gw_turns.specs.declared.serving.ServeStop.{ServeStop}
use Rattle.gw_core.specs.Effects.{effects_at, passes_end, NeedsNoMemory}
use Rattle.gw_core.specs.History.{next, run_from, state_from, log as denials_of_run}
use Rattle.gw_core.specs.State.{State}
use Rattle.gw_wire.specs.Wire.{Call, empty_receive, failed_receive, arrival, departure, failed_send, Records}

-- ---- a turn

-- a datagram that was tried to be sent, and whether that succeeded
pub record Try : Type 0 where
  pub sending : Sending
  pub success : Bool

-- One receive and what followed it: nothing had come; it failed; an event came and wasn't taken,
-- since memory was wanted; or an event came and was taken, and its datagrams were tried to be sent.
pub data Turn : Type 0 where
  empty_turn : Turn
  failed_turn : Turn
  lost_event : (event : Event) → Turn
  taken_event : (event : Event) (tries : List Try) → Turn

-- What a turn may be in this state of the gateway. Memory may be wanted only for an event that asks
-- or sends something. An event that is taken passes the end of no count, and what it sends is
-- tried, once and in order.
abbrev pub IsTurn : State → Turn → Type 0
IsTurn w empty_turn = ⊤
IsTurn w failed_turn = ⊤
IsTurn w (lost_event event) = ¬ (NeedsNoMemory w event)
IsTurn w (taken_event event tries) =
    (passes_end w event ≡ false) × (map (λ t. t.sending) tries ≡ (effects_at w event).sends)

-- the event that is taken in a turn, where one is
abbrev pub turn_events : Turn → List Event
turn_events empty_turn = []
turn_events failed_turn = []
turn_events (lost_event event) = []
turn_events (taken_event event tries) = event ∷ []

-- the call of the wire that a try is
abbrev pub try_call : Try → Call
try_call t = if t.success then departure t.sending else failed_send t.sending

-- the calls of the wire in a turn
abbrev pub turn_calls : Turn → List Call
turn_calls empty_turn = empty_receive ∷ []
turn_calls failed_turn = failed_receive ∷ []
turn_calls (lost_event event) = arrival event ∷ []
turn_calls (taken_event event tries) = arrival event ∷ map try_call tries

-- how many tries succeeded, and how many failed
abbrev pub successes : List Try → ℕ
successes tries = count_by (λ t. t.success) tries

abbrev pub failures : List Try → ℕ
failures tries = count_by (λ t. not t.success) tries

-- how many ticks were taken, after an event more
abbrev pub ticks_with : ℕ → Event → ℕ
ticks_with ticks (Datagram port from octets) = ticks
ticks_with ticks Tick = one_more ticks

-- what came of the sends by port, after these tries, when so many ticks had been taken
unfoldable pub ports_after : List PortSends → (ticks : ℕ) → List Try → List PortSends
ports_after ports ticks [] = ports
ports_after ports ticks (t ∷ tries) = ports_after (sent_at ports t.sending.port ticks t.success) ticks tries

-- the counts after one turn more
abbrev pub count_turn : Served → Turn → Served
count_turn s empty_turn = record s { turns = s.turns + 1 }
count_turn s failed_turn = record s { turns = s.turns + 1; recv_failures = s.recv_failures + 1 }
count_turn s (lost_event event) = record s { turns = s.turns + 1; memory_drops = s.memory_drops + 1 }
count_turn s (taken_event event tries) = record s {
  turns = s.turns + 1;
  taken = s.taken + 1;
  sends = s.sends + successes tries;
  send_failures = s.send_failures + failures tries;
  ticks = ticks_with s.ticks event;
  ports = ports_after s.ports (ticks_with s.ticks event) tries;
}

-- ---- turns, one after the other

-- the events that were taken, in order
abbrev pub events_of : List Turn → List Event
events_of turns = flat_map turn_events turns

-- the calls of the wire, in order
abbrev pub calls_of : List Turn → List Call
calls_of turns = flat_map turn_calls turns

abbrev pub zero_counts : Served
zero_counts = record {
  turns = 0;
  taken = 0;
  memory_drops = 0;
  recv_failures = 0;
  sends = 0;
  send_failures = 0;
  ticks = 0;
  ports = nothing_sent;
}

unfoldable pub counts_after : Served → List Turn → Served
counts_after s [] = s
counts_after s (turn ∷ turns) = counts_after (count_turn s turn) turns

-- the counts of these turns
abbrev pub counts_of : List Turn → Served
counts_of turns = counts_after zero_counts turns

-- At most as many events more were counted as lost to memory as times more the gateway was asked to take one and answered that memory
-- was refused; or these are too many to be counted.
abbrev pub AreRefused : Served → ℕ → Served → ℕ → Type 0
AreRefused s refusals t later =
    (refusals ≤ later) × ((t.memory_drops + refusals ≤ s.memory_drops + later) ⊎ (2 ^ 64 - 1 ≤ later))

-- each is what a turn may be, in the state that those before it lead to
unfoldable pub AreTurns : State → List Turn → Type 0
AreTurns w [] = ⊤
AreTurns w (turn ∷ turns) = IsTurn w turn × AreTurns (state_from w (turn_events turn)) turns

-- the lines of denials, one after the other
abbrev pub lines_of : List Denial → List ℕ
lines_of denials = flat_map line_text denials

-- the log of a run: the lines of its denials, one after the other
abbrev pub log_of : List Effects → List ℕ
log_of run = lines_of (denials_of_run run)

-- what was done, as serving answers it at every end
abbrev pub counts_of_answer : Result Served ServeStop → Served
counts_of_answer (Ok served) = served
counts_of_answer (Err stop) = stop.served

-- the scene at a moment: the gateway, what the log holds and what the wire reports, if they are known
pub record Scene : Type 0 where
  pub gateway : State
  pub log : Option (List ℕ)
  pub calls : Option (List Call)

abbrev pub scene : State → Option (List ℕ) → Option (List Call) → Scene
scene w log calls = record { gateway = w; log = log; calls = calls }

-- What these turns lead to: the gateway took their events, in order; the log has the lines of
-- exactly the denials of that run after what it held; and the wire reports these receives and
-- sends, in order.
pub record LeadTo (before : Scene) (turns : List Turn) (after : Scene) : Type 0 where
  pub each : AreTurns before.gateway turns
  pub gateway : after.gateway ≡ state_from before.gateway (events_of turns)
  pub log : Appends before.log after.log (log_of (run_from before.gateway (events_of turns)))
  pub calls : Records before.calls after.calls (calls_of turns)

-- ---- the end

-- as many turns were done as were asked for
pub record ServesAll (count : ℕ) (before : Scene) (served : Served) (after : Scene) : Type 0 where
  pub turns : List Turn
  pub all : length turns ≡ count
  pub went : LeadTo before turns after
  pub counts : served ≡ counts_of turns

-- The last event was handed in and taken, and nothing of what it sends was tried.
pub record IsTakenLast (before : Scene) (event : Event) (after : Scene) : Type 0 where
  pub counts : passes_end before.gateway event ≡ false
  pub gateway : after.gateway ≡ next before.gateway event
  pub calls : Records before.calls after.calls (arrival event ∷ [])

-- The log failed at the lines of the last event: it has a front of them, and this is what it lacks.
pub record EndsAtLog (unwritten : List ℕ) (before : Scene) (event : Event) (after : Scene) : Type 0 where
  pub taken : IsTakenLast before event after
  pub denies : ¬ ((effects_at before.gateway event).denials ≡ [])
  pub front : List ℕ
  pub lines : lines_of (effects_at before.gateway event).denials ≡ front ++ unwritten
  pub log : Appends before.log after.log front

-- Memory was wanted for the lines of the last event, of which the log has nothing.
pub record EndsAtMemory (before : Scene) (event : Event) (after : Scene) : Type 0 where
  pub taken : IsTakenLast before event after
  pub denies : ¬ ((effects_at before.gateway event).denials ≡ [])
  pub log : after.log ≡ before.log

-- The last event, which the wire handed in, would pass the end of a count and wasn't taken.
pub record EndsAtCount (before : Scene) (event : Event) (after : Scene) : Type 0 where
  pub passes : passes_end before.gateway event ≡ true
  pub gateway : after.gateway ≡ before.gateway
  pub log : after.log ≡ before.log
  pub calls : Records before.calls after.calls (arrival event ∷ [])

-- what the last event left, by the fault; if the log failed, this is what it lacks
abbrev pub EndsBy : ServeFault → (unwritten : List ℕ) → Scene → Event → Scene → Type 0
EndsBy Log unwritten = EndsAtLog unwritten
EndsBy Memory unwritten = EndsAtMemory
EndsBy CountEnd unwritten = EndsAtCount

-- the counts where the last turn ended in a fault: one receive more, and one event more taken, but
-- for the end of a count
abbrev pub count_fault : Served → ServeFault → Served
count_fault s Log = record s { turns = s.turns + 1; taken = s.taken + 1 }
count_fault s Memory = record s { turns = s.turns + 1; taken = s.taken + 1 }
count_fault s CountEnd = record s { turns = s.turns + 1 }

-- Fewer turns were done than were asked for, and the next one ended in a fault, at its event.
pub record Stops (count : ℕ) (before : Scene) (stop : ServeStop) (after : Scene) : Type 0 where
  pub turns : List Turn
  pub fewer : length turns < count
  pub moment : Scene
  pub went : LeadTo before turns moment
  pub event : Event
  pub unwritten : List ℕ
  pub last : EndsBy stop.fault unwritten moment event after
  pub counts : stop.served ≡ count_fault (counts_of turns) stop.fault
