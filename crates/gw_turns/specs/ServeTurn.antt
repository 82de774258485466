-- What comes of the parts of one turn. It only helps proofs.
use Rattle.std.specs.Prelude.{◌≡◌, ℕ, ◌+◌, ◌^◌, ◌<◌, ◌≤◌, Bool, true, false, not, List, [], ◌∷◌, ◌++◌, map, Option, Result, Ok, Err}
use Rattle.std.specs.declared.alloc.AllocError.{AllocError}
use Rattle.std.specs.Option.{option_map}
use Rattle.std.specs.Io.KnownBytes.{Appends}
use Rattle.gw_audit.specs.declared.denial.Denial.{Denial}
use Rattle.gw_script.specs.declared.event.Event.{Event as LentEvent}
use Rattle.gw_script.specs.Event.{Event, event_view}
use Rattle.gw_relay.specs.Sends.{Sending}
use Rattle.gw_wire.specs.declared.wire.WireFault.{WireFault}
use Rattle.gw_turns.specs.declared.serving.Served.{Served}
use Rattle.gw_turns.specs.declared.serving.ServeFault.{ServeFault}
use Rattle.gw_core.specs.State.{State}
use Rattle.gw_core.specs.declared.fault.StepFault.{StepFault}
use Rattle.gw_core.specs.declared.fault.StepFault.TheVariants as step
use Rattle.gw_turns.specs.Pace.{one_more}
use Rattle.gw_turns.specs.Stretch.{GoOn, IsFaulty, IsWithheld, Moment, wire_counts}
use Rattle.gw_turns.specs.Ports.{sent_at}
use Rattle.gw_turns.specs.Tally.{number_if, tally_from}
use Rattle.gw_turns.specs.declared.tally.DropTally.{DropTally}
use Rattle.gw_wire.specs.Wire.{Call, Records}
use Rattle.gw_turns.specs.Serve.{Scene, Try, Turn, LeadTo, EndsBy, count_turn, count_fault, failures, lines_of}
use Rattle.gw_turns.specs.Serve.{ports_after, successes, try_call, turn_events}

-- what was received, without where its octets lie in memory
abbrev pub event_answer : Result (Option LentEvent) WireFault → Result (Option Event) WireFault
event_answer (Ok event) = Ok (option_map event_view event)
event_answer (Err fault) = Err fault

-- how often memory was refused for an event, after the gateway was asked to take one more
abbrev pub refusals_after : {A : Type 0} → ℕ → Result A StepFault → ℕ
refusals_after refusals (Ok taken) = refusals
refusals_after refusals (Err step.Memory) = one_more refusals
refusals_after refusals (Err step.CountEnd) = refusals

-- no count passes its end in the next turn
pub record HasRoom (s : Served) (wire_failures : ℕ) : Type 0 where
  pub turns : s.turns < 2 ^ 63
  pub each : s.taken + s.memory_drops + s.recv_failures ≤ s.turns
  pub sends : wire_counts s + 2 ^ 64 ≤ 2 ^ 128
  pub failures : wire_failures + 2 ^ 64 ≤ 2 ^ 128

-- a turn went as it must, or its event ended in a fault, and isn't tallied
abbrev pub TurnEnd : Scene → Served → DropTally → Scene → Served → DropTally → Result Unit ServeFault → Type 0
TurnEnd before s was after t is (Ok done) =
    (turn : Turn) × LeadTo before (turn ∷ []) after × (t ≡ count_turn s turn)
    × (is ≡ tally_from before.gateway was (turn_events turn))
TurnEnd before s was after t is (Err fault) =
    (event : Event) × (unwritten : List ℕ) × EndsBy fault unwritten before event after × (t ≡ count_fault s fault) × (is ≡ was)

-- a turn with a guard: what was taken, if something was, was passed and tried; or it was withheld; or its event ended in a
-- fault
abbrev pub GuardedEnd : {G : Type 0} → (G → State → Event → G → Bool → Type 0) → Moment G → Result Bool ServeFault → (unwritten : List ℕ)
    → Moment G → Type 0
GuardedEnd Passes before (Ok true) unwritten after = (turn : Turn) × GoOn Passes before (turn ∷ []) after
GuardedEnd Passes before (Ok false) unwritten after = (event : Event) × IsWithheld Passes before event after
GuardedEnd Passes before (Err fault) unwritten after = (event : Event) × IsFaulty Passes fault unwritten before event after

-- what the log holds of the lines of these denials: all; or it failed, and lacks this; or there was no memory for them
abbrev pub LogEnd : List Denial → Option (List ℕ) → Option (List ℕ) → Result Bool AllocError → (unwritten : List ℕ) → Type 0
LogEnd denials before after (Ok true) unwritten = Appends before after (lines_of denials)
LogEnd denials before after (Ok false) unwritten =
    ¬ (denials ≡ []) × (front : List ℕ) × (lines_of denials ≡ front ++ unwritten) × Appends before after front
LogEnd denials before after (Err refused) unwritten = ¬ (denials ≡ []) × (after ≡ before)

-- the counts after a send that was tried on the port of this number, by whether it succeeded
abbrev pub counted_send : Served → (port : ℕ) → (success : Bool) → Served
counted_send s port success = record s {
  sends = s.sends + number_if success;
  send_failures = s.send_failures + number_if (not success);
  ports = sent_at s.ports port s.ticks success;
}

-- these datagrams were tried to be sent, once and in order, and what came of each is counted
pub record AreTried (sendings : List Sending) (recorded records : Option (List Call)) (s t : Served) (wire_failures then : ℕ)
    : Type 0 where
  pub tries : List Try
  pub are : map (λ x. x.sending) tries ≡ sendings
  pub calls : Records recorded records (map try_call tries)
  pub counts : t ≡ record s {
    sends = s.sends + successes tries;
    send_failures = s.send_failures + failures tries;
    ports = ports_after s.ports s.ticks tries;
  }
  pub failed : then ≡ wire_failures + failures tries
