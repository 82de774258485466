-- From where a gateway begins that keeps its state: what its file holds, and the last denial of its log.
use Rattle.std.specs.Prelude.{◌≡◌, ⊤, ℕ, ◌^◌, ◌||◌, nat_eq, List, [], ◌++◌, Bool, true, false, codes, Option, Some, None, Result, Ok, Err}
use Rattle.gw_configuration.specs.Configuration.{Configuration}
use Rattle.gw_core.specs.History.{state_after, no_counts}
use Rattle.gw_core.specs.Resumed.{carried}
use Rattle.gw_core.specs.State.{State}
use Rattle.gw_core.specs.declared.event.Counts.{Counts}
use Rattle.gw_configuration.specs.Shown.{shown}
use Rattle.gw_state.specs.Saved.{Saved}
use Rattle.gw_state.specs.declared.counts.SavedCounts.{SavedCounts}
use Rattle.gw_state_text.specs.Place.{IsPlaceOf}
use Rattle.gw_state_text.specs.Text.{state_text}
use Rattle.gw_state_text.specs.declared.fault.FaultKind.{FaultKind}
use Rattle.gw_state_text.specs.declared.fault.FaultKind.TheVariants as kinds
use Rattle.gw_state_text.specs.declared.fault.StateFault.{StateFault}
use Rattle.gw_system.specs.declared.reading.ReadFailure.{ReadFailure}
use Rattle.gw_system.specs.declared.reading.ReadFailure.TheVariants as reading
use Rattle.gw_state_words.specs.Words.{dropped_words}
use Rattle.gw_service.specs.Counts.{GoesOnFrom, IsNumbered}
use Rattle.gw_service.specs.declared.fault.ServiceFault.{ServiceFault}
use Rattle.gw_service.specs.declared.fault.ServiceFault.TheVariants as fault

-- a count is at its end: a gateway that begins so ends at its first tick, or at its first denial
abbrev pub are_at_end : SavedCounts → Bool
are_at_end counts = nat_eq counts.ticks (2 ^ 63) || nat_eq counts.denials (2 ^ 63)

-- What is known of a state by its text: it is that of this state, of which no count is at its end; or why it isn't, at which line, is
-- the fault. Memory may run out.
abbrev pub IsTextRead : List ℕ → Result Saved ServiceFault → Type 0
IsTextRead text (Err fault.Memory) = ⊤
IsTextRead text (Ok s) = (text ≡ state_text s) × (are_at_end s.counts ≡ false)
IsTextRead text (Err (fault.State f)) = IsPlaceOf text f.line
IsTextRead text outcome = ⊥

-- What is known of a state by reading its file. There is none if there is no file. A file that is there is never passed over:
-- it is the text of a state, or why it isn't is the fault. Memory runs out only at a text, or at reading it.
abbrev pub IsStateRead : Result (Option (List ℕ)) ReadFailure → Result (Option Saved) ServiceFault → Type 0
IsStateRead (Err reading.Memory) (Err fault.Memory) = ⊤
IsStateRead (Ok None) (Ok None) = ⊤
IsStateRead (Ok (Some text)) (Ok (Some s)) = IsTextRead text (Ok s)
IsStateRead (Ok (Some text)) (Err f) = IsTextRead text (Err f)
IsStateRead (Err (reading.Unreadable found)) (Err (fault.StateUnreadable why)) = why ≡ found
IsStateRead read outcome = ⊥

-- memory is no fault of the text
abbrev pub by_kind : FaultKind → StateFault → ServiceFault
by_kind kinds.Memory f = fault.Memory
by_kind kind f = fault.State f

-- the fault of a text that is none of a state
abbrev pub fault_of_text : StateFault → ServiceFault
fault_of_text f = by_kind f.kind f

-- the fault of a file that can't be read
abbrev pub fault_of_reading : ReadFailure → ServiceFault
fault_of_reading (reading.Unreadable why) = fault.StateUnreadable why
fault_of_reading reading.Memory = fault.Memory

-- the state in which a gateway of this configuration begins with what was saved, if something was
abbrev pub begun : Configuration → Option Saved → State
begun c None = state_after c no_counts []
begun c (Some s) = carried c s

abbrev pub counts_of : State → Counts
counts_of w = record { ticks = w.ticks; denials = w.denials }

-- It goes on from the greater ones of the counts of the state and those of the last denial of its log, where the number that was saved
-- isn't ahead of what the log shows.
pub record BeginsAs (c : Configuration) (saved : Option Saved) (line : Option (List ℕ)) (w : State) : Type 0 where
  pub numbered : Option Saved
  pub is : IsNumbered saved line numbered
  pub counts : Counts
  pub from : GoesOnFrom (counts_of (begun c numbered)) line counts
  pub state : w ≡ record (begun c numbered) { ticks = counts.ticks; denials = counts.denials }

-- what is said of a state at the start: that it is new, if more is asked for, or what of it isn't taken over
abbrev pub start_text : Bool → List ℕ → Configuration → Option Saved → List ℕ
start_text true name c None = codes "state: " ++ shown name ++ codes " is new\n"
start_text false name c None = []
start_text verbose name c (Some s) = dropped_words c s
