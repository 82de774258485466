-- What a line of a script writes: an event, or that the gateway announces itself, which is no event.
use Rattle.std.specs.Prelude.{◌≡◌, ⊤, ℕ, Bool, true, List, [], ◌∷◌, codes}
use Rattle.gw_script.specs.Event.{Event, event_view}
use Rattle.gw_script.specs.Script.{IsLine}
use Rattle.gw_core.specs.Effects.{NeedsNoMemory, passes_end}
use Rattle.gw_core.specs.History.{next}
use Rattle.gw_core.specs.State.{State}
use Rattle.gw_replay.specs.declared.entry.ScriptEntry.{ScriptEntry as LentEntry}
use Rattle.gw_replay.specs.declared.entry.ScriptEntry.TheVariants as lent

pub data ScriptEntry : Type 0 where
  Comes : (event : Event) → ScriptEntry
  Announces : ScriptEntry

abbrev pub entry_view : LentEntry → ScriptEntry
entry_view (lent.Comes event) = Comes (event_view event)
entry_view lent.Announces = Announces

-- a line as it writes this: an event; or `announce`, but only to a gateway that announces
abbrev pub IsEntry : (announces : Bool) → ℕ → List ℕ → ScriptEntry → Type 0
IsEntry announces ports line (Comes event) = IsLine ports line event
IsEntry announces ports line Announces = (announces ≡ true) × (line ≡ codes "announce")

-- lines that write these, one each
abbrev pub AreEntries : Bool → ℕ → List (List ℕ) → List ScriptEntry → Type 0
AreEntries announces ports [] [] = ⊤
AreEntries announces ports [] (entry ∷ entries) = ⊥
AreEntries announces ports (line ∷ lines) [] = ⊥
AreEntries announces ports (line ∷ lines) (entry ∷ entries) =
    IsEntry announces ports line entry × AreEntries announces ports lines entries

-- the events among them, in order
abbrev pub events_among : List ScriptEntry → List Event
events_among [] = []
events_among (Comes event ∷ entries) = event ∷ events_among entries
events_among (Announces ∷ entries) = events_among entries

-- these events, as a script writes them
abbrev pub entries_of : List Event → List ScriptEntry
entries_of [] = []
entries_of (event ∷ events) = Comes event ∷ entries_of events

-- the state of a gateway after one of them: an announcement changes nothing
abbrev pub moved_by : State → ScriptEntry → State
moved_by w (Comes event) = next w event
moved_by w Announces = w

-- the history after one of them, newest first
abbrev pub history_with : List Event → ScriptEntry → List Event
history_with h (Comes event) = event ∷ h
history_with h Announces = h

-- the history after all of them
unfoldable pub history_by : List Event → List ScriptEntry → List Event
history_by h [] = h
history_by h (entry ∷ entries) = history_by (history_with h entry) entries

-- memory may be wanted for it
abbrev pub MayWantMemory : State → ScriptEntry → Type 0
MayWantMemory w (Comes event) = ¬ (NeedsNoMemory w event)
MayWantMemory w Announces = ⊤

-- it is an event that would pass the end of a count
abbrev pub PassesEndAt : State → ScriptEntry → Type 0
PassesEndAt w (Comes event) = passes_end w event ≡ true
PassesEndAt w Announces = ⊥
