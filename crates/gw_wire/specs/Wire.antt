-- What a wire reports: each call of it, and what came of the call.
use Rattle.std.specs.Prelude.{◌≡◌, ℕ, ◌≤◌, List, ◌++◌, take, Option, Some, None, Result, Ok, Err, ⊤}
use Rattle.gw_script.specs.Event.{Event, Datagram, Tick}
use Rattle.gw_frames.specs.bvll.Sending.{Sending}
use Rattle.gw_wire.specs.declared.wire.TheConstants.{RECEIVE_ROOM}
use Rattle.gw_wire.specs.declared.wire.Got.{Got}
use Rattle.gw_wire.specs.declared.wire.Got.TheVariants as got
use Rattle.gw_wire.specs.declared.wire.WireFault.{WireFault}

-- one call: a receive that found nothing, failed or handed in an event, or a send that succeeded or failed
pub data Call : Type 0 where
  empty_receive : Call
  failed_receive : Call
  arrival : (event : Event) → Call
  departure : (sending : Sending) → Call
  failed_send : (sending : Sending) → Call

-- What a wire reports goes on by these calls. A wire may stop reporting; one that reports nothing never reports again.
abbrev pub Records : Option (List Call) → Option (List Call) → List Call → Type 0
Records None now calls = now ≡ None
Records (Some recorded) None calls = ⊤
Records (Some recorded) (Some now) calls = now ≡ recorded ++ calls

-- the event that a receive handed in, if it did: a datagram is at the buffer's front
abbrev pub event_of : Got → List ℕ → Option Event
event_of (got.Datagram port from len) buffer = Some (Datagram port from (take len buffer))
event_of got.Tick buffer = Some Tick
event_of got.Idle buffer = None

-- what came of a receive, if it didn't fail
abbrev pub arrival_of : Option Event → Call
arrival_of None = empty_receive
arrival_of (Some event) = arrival event

-- the call that a receive was, by its answer
abbrev pub receive_call : Result (Option Event) WireFault → Call
receive_call (Ok event) = arrival_of event
receive_call (Err fault) = failed_receive

-- the answer of a receive to the buffer
abbrev pub receive_answer : Result Got WireFault → List ℕ → Result (Option Event) WireFault
receive_answer (Ok answer) buffer = Ok (event_of answer buffer)
receive_answer (Err fault) buffer = Err fault

-- the call that a send was, by its answer
abbrev pub send_call : Result Unit WireFault → Sending → Call
send_call (Ok done) sending = departure sending
send_call (Err fault) sending = failed_send sending

-- how many failures a call adds to a wire's count, by its answer
abbrev pub failures_of : {A : Type 0} → Result A WireFault → ℕ
failures_of (Ok answer) = 0
failures_of (Err fault) = 1

-- what is handed in fits the buffer, and its port is one of so many
abbrev pub IsHandedIn : ℕ → Got → Type 0
IsHandedIn ports (got.Datagram port from len) = (1 ≤ port) × (port ≤ ports) × (len ≤ RECEIVE_ROOM)
IsHandedIn ports got.Tick = ⊤
IsHandedIn ports got.Idle = ⊤
