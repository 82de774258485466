-- What comes of one line of a script in a replay.
use Rattle.std.specs.Prelude.{◌≡◌, ◌⊎◌, ℕ, Bool, true, false, List, [], ◌∷◌, ◌++◌, length}
use Rattle.std.specs.Prelude.{Option, Some, Result, Ok, Err}
use Rattle.gw_script.specs.Event.{Event}
use Rattle.gw_replay.specs.declared.replaying.RunFault.{RunFault}
use Rattle.gw_replay.specs.declared.replaying.RunFault.TheVariants.{Read, Line, Write, Memory}
use Rattle.gw_replay.specs.declared.replaying.RunFault.TheVariants.{CountEnd}
use Rattle.gw_core.specs.State.{State}
use Rattle.gw_core.specs.Effects.{passes_end, NeedsNoMemory}
use Rattle.gw_script.specs.Script.{lines_of}
use Rattle.gw_replay.specs.Entry.{ScriptEntry, IsEntry, MayWantMemory, PassesEndAt, moved_by}
use Rattle.gw_replay.specs.Replay.{EventText, entry_text}

-- the first line writes something, whose text was appended, and the gateway moved on by it
pub record WholeStep (wording : EventText) (w moved : State) (text : List ℕ) (left : Option (List ℕ)) (before : List ℕ)
    (after : Option (List ℕ)) : Type 0 where
  pub line : List ℕ
  pub entry : ScriptEntry
  pub writes : IsEntry w.relay.announce (length w.relay.ports) line entry
  pub rest : List ℕ
  pub remains : left ≡ Some rest
  pub lines : lines_of text ≡ line ∷ lines_of rest
  pub appended : after ≡ Some (before ++ entry_text wording w entry)
  pub moves : moved ≡ moved_by w entry

-- the first line writes nothing
pub record NoEntry (w : State) (text : List ℕ) : Type 0 where
  pub line : List ℕ
  pub others : List (List ℕ)
  pub lines : lines_of text ≡ line ∷ others
  pub no_entry : (e : ScriptEntry) → ¬ (IsEntry w.relay.announce (length w.relay.ports) line e)

-- the first line writes something, of whose text a front was appended
pub record CutStep (wording : EventText) (w : State) (text before : List ℕ) (after : Option (List ℕ)) : Type 0 where
  pub line : List ℕ
  pub entry : ScriptEntry
  pub others : List (List ℕ)
  pub writes : IsEntry w.relay.announce (length w.relay.ports) line entry
  pub lines : lines_of text ≡ line ∷ others
  pub front : List ℕ
  pub unwritten : List ℕ
  pub parts : entry_text wording w entry ≡ front ++ unwritten
  pub appended : after ≡ Some (before ++ front)

-- the first line writes an event that would pass the end of a count
pub record PassesEnd (w : State) (text : List ℕ) : Type 0 where
  pub line : List ℕ
  pub entry : ScriptEntry
  pub others : List (List ℕ)
  pub writes : IsEntry w.relay.announce (length w.relay.ports) line entry
  pub lines : lines_of text ≡ line ∷ others
  pub passes : PassesEndAt w entry

-- the first line writes something for which memory may be wanted
pub record MemoryWant (w : State) (text : List ℕ) : Type 0 where
  pub line : List ℕ
  pub entry : ScriptEntry
  pub others : List (List ℕ)
  pub writes : IsEntry w.relay.announce (length w.relay.ports) line entry
  pub lines : lines_of text ≡ line ∷ others
  pub wants : MayWantMemory w entry

-- what comes of the first line, whose number this is
abbrev pub LineOutcome : EventText → ℕ → State → State → List ℕ → Option (List ℕ) → List ℕ → Option (List ℕ)
    → Result Bool RunFault → Type 0
LineOutcome wording n w moved text left before after (Ok true) = WholeStep wording w moved text left before after
LineOutcome wording n w moved text left before after (Ok false) =
    (lines_of text ≡ []) × (after ≡ Some before)
LineOutcome wording n w moved text left before after (Err (Line m)) =
    (m ≡ n) × NoEntry w text × (after ≡ Some before)
LineOutcome wording n w moved text left before after (Err Write) = CutStep wording w text before after
LineOutcome wording n w moved text left before after (Err Read) = after ≡ Some before
LineOutcome wording n w moved text left before after (Err Memory) =
    MemoryWant w text × (after ≡ Some before)
LineOutcome wording n w moved text left before after (Err CountEnd) =
    PassesEnd w text × (after ≡ Some before)

-- the same, where the text that is left and what was written are known
abbrev pub OnKnownLine : EventText → ℕ → State → State → Option (List ℕ) → Option (List ℕ) → Option (List ℕ)
    → Option (List ℕ) → Result Bool RunFault → Type 0
OnKnownLine wording n w moved left leaves held holds result =
    (text before : List ℕ) → left ≡ Some text → held ≡ Some before
    → LineOutcome wording n w moved text leaves before holds result

-- an event is not taken for want of memory, which it may want, or since it would pass the end of a
-- count
abbrev pub IsEventFault : State → Event → RunFault → Type 0
IsEventFault w event fault =
    ((fault ≡ Memory) × ¬ (NeedsNoMemory w event)) ⊎ ((fault ≡ CountEnd) × (passes_end w event ≡ true))

-- the same of what a line writes
abbrev pub IsEntryFault : State → ScriptEntry → RunFault → Type 0
IsEntryFault w entry fault = ((fault ≡ Memory) × MayWantMemory w entry) ⊎ ((fault ≡ CountEnd) × PassesEndAt w entry)
