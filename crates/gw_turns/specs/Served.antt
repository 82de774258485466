-- What serving says of the calls of its wire, in the words of a wire: what it handed in, what was taken of that, and
-- what was tried to be sent.
use Rattle.std.specs.Prelude.{◌≡◌, ◌≤◌, ℕ, ◌+◌, Bool, true, false, List, [], ◌∷◌, length, count_by, Option, Some, None}
use Rattle.std.specs.Prelude.{Result, Ok, Err}
use Rattle.std.specs.List.{flat_map}
use Rattle.gw_script.specs.Event.{Event}
use Rattle.gw_relay.specs.Sends.{Sending}
use Rattle.gw_turns.specs.declared.serving.Served.{Served}
use Rattle.gw_turns.specs.declared.serving.ServeFault.{ServeFault}
use Rattle.gw_turns.specs.declared.serving.ServeFault.TheVariants.{Log, Memory, CountEnd}
use Rattle.gw_turns.specs.declared.serving.ServeStop.{ServeStop}
use Rattle.gw_core.specs.History.{run_from, state_from}
use Rattle.gw_core.specs.Marked.{kept}
use Rattle.gw_turns.specs.Serve.{Scene, ServesAll, Stops}
use Rattle.gw_wire.specs.Wire.{Call, Records, arrival, departure, empty_receive, failed_receive, failed_send}

-- ---- calls

-- a receive
abbrev pub is_receive : Call → Bool
is_receive empty_receive = true
is_receive failed_receive = true
is_receive (arrival event) = true
is_receive (departure sending) = false
is_receive (failed_send sending) = false

-- one that failed
abbrev pub is_failed_receive : Call → Bool
is_failed_receive empty_receive = false
is_failed_receive failed_receive = true
is_failed_receive (arrival event) = false
is_failed_receive (departure sending) = false
is_failed_receive (failed_send sending) = false

-- a send that succeeded
abbrev pub is_departure : Call → Bool
is_departure empty_receive = false
is_departure failed_receive = false
is_departure (arrival event) = false
is_departure (departure sending) = true
is_departure (failed_send sending) = false

-- the event that a call handed in, if it did
abbrev pub event_in : Call → List Event
event_in empty_receive = []
event_in failed_receive = []
event_in (arrival event) = event ∷ []
event_in (departure sending) = []
event_in (failed_send sending) = []

-- the datagram that a call tried to send, if it did
abbrev pub tried_by : Call → List Sending
tried_by empty_receive = []
tried_by failed_receive = []
tried_by (arrival event) = []
tried_by (departure sending) = sending ∷ []
tried_by (failed_send sending) = sending ∷ []

-- the events that were handed in, in order
abbrev pub handed_in : List Call → List Event
handed_in calls = flat_map event_in calls

-- the datagrams that were tried to be sent, in order
abbrev pub tried : List Call → List Sending
tried calls = flat_map tried_by calls

-- ---- why it ended

-- the one event that is neither taken nor lost to memory: that at the end of a count
abbrev pub at_count_end : Option ServeFault → ℕ
at_count_end (Some CountEnd) = 1
at_count_end other = 0

-- a list but its last
abbrev pub but_last : {A : Type 0} → List A → List A
but_last [] = []
but_last (x ∷ []) = []
but_last (x ∷ y ∷ xs) = x ∷ but_last (y ∷ xs)

-- the taken events whose datagrams were tried: all, but for the last where the log or memory failed it
abbrev pub answered : Option ServeFault → List Event → List Event
answered (Some Log) events = but_last events
answered (Some Memory) events = but_last events
answered other events = events

-- ---- what was done

-- By the calls of the wire, which it reports, and the marks of the events that were handed in and not taken.
pub record IsServed (before : Scene) (served : Served) (fault : Option ServeFault) (after : Scene) : Type 0 where
  pub calls : List Call
  pub lost : List Bool
  pub recorded : Records before.calls after.calls calls
  -- the gateway took the others, in order
  pub gateway : after.gateway ≡ state_from before.gateway (kept lost (handed_in calls))
  pub taken : served.taken ≡ length (kept lost (handed_in calls))
  -- those that were taken, those lost to memory and one at the end of a count are all that were handed in
  pub all : served.taken + served.memory_drops + at_count_end fault ≡ length (handed_in calls)
  pub turns : served.turns ≡ count_by is_receive calls
  pub recv_failures : served.recv_failures ≡ count_by is_failed_receive calls
  pub sends : served.sends ≡ count_by is_departure calls
  pub tries : served.sends + served.send_failures ≡ length (tried calls)
  -- what was tried to be sent is what the taken events send, in order
  pub tried : tried calls
      ≡ flat_map (λ x. x.sends) (run_from before.gateway (answered fault (kept lost (handed_in calls))))

-- as many turns as were asked for
pub record IsServedWhole (count : ℕ) (before : Scene) (served : Served) (after : Scene) : Type 0 where
  pub done : IsServed before served None after
  pub turns : served.turns ≡ count

-- fewer, and a last one that ended in a fault
pub record IsServedUntil (count : ℕ) (before : Scene) (stop : ServeStop) (after : Scene) : Type 0 where
  pub done : IsServed before stop.served (Some stop.fault) after
  pub turns : stop.served.turns ≤ count

-- what serving answered
abbrev pub IsServing : ℕ → Scene → Result Served ServeStop → Scene → Type 0
IsServing count before (Ok served) after = IsServedWhole count before served after
IsServing count before (Err stop) after = IsServedUntil count before stop after

-- ---- the laws

-- What `serve` promises where all turns were done, in these words.
abbrev pub TurnsAreServed : Type 0
TurnsAreServed =
    (count : ℕ) (before : Scene) (served : Served) (after : Scene) →
    ServesAll count before served after → IsServedWhole count before served after

-- And where it ended before.
abbrev pub StopsAreServed : Type 0
StopsAreServed =
    (count : ℕ) (before : Scene) (stop : ServeStop) (after : Scene) →
    Stops count before stop after → IsServedUntil count before stop after
