-- What a replay writes: the text of the run of a script's lines, as far as the script and its run go.
use Rattle.std.specs.Prelude.{◌≡◌, ◌⊎◌, ℕ, ◌+◌, List, [], ◌∷◌, ◌++◌, length, take, drop, true, Result, Ok, Err}
use Rattle.gw_script.specs.Event.{Event}
use Rattle.gw_configuration.specs.Configuration.{Configuration}
use Rattle.gw_core.specs.Effects.{passes_end}
use Rattle.gw_core.specs.History.{no_counts, state_after}
use Rattle.gw_core.specs.State.{State}
use Rattle.gw_replay.specs.declared.replaying.RunFault.{RunFault}
use Rattle.gw_replay.specs.declared.replaying.RunFault.TheVariants.{Read, Line, Write, Memory, CountEnd}
use Rattle.gw_script.specs.Script.{lines_of, IsLine}
use Rattle.gw_replay.specs.Entry.{AreEntries, Announces, Comes, ScriptEntry, IsEntry, MayWantMemory, history_by, history_with}
use Rattle.gw_replay.specs.Shown.{announced_text}

-- How an event is reported: its text, in the state in which it comes. A replay reports what each
-- event does (`event_text`), and one that explains also what each asks (`explained_text`).
abbrev pub EventText : Type 0
EventText = State → Event → List ℕ

-- How what a line writes is reported: an announcement by what is sent.
abbrev pub entry_text : EventText → State → ScriptEntry → List ℕ
entry_text wording w (Comes event) = wording w event
entry_text wording w Announces = announced_text w

-- the text of lines after a history, each in the state that those before it left
unfoldable pub text_after : EventText → Configuration → List Event → List ScriptEntry → List ℕ
text_after wording c h [] = []
text_after wording c h (entry ∷ l) =
    entry_text wording (state_after c no_counts h) entry ++ text_after wording c (history_with h entry) l

-- the text of the run of what these lines write, from a fresh gateway
abbrev pub run_text : EventText → Configuration → List ScriptEntry → List ℕ
run_text wording c entries = text_after wording c [] entries

-- the state after it
abbrev pub played : Configuration → List ScriptEntry → State
played c entries = state_after c no_counts (history_by [] entries)

-- the first lines of the script write these
abbrev pub FirstLines : Configuration → List ℕ → List ScriptEntry → Type 0
FirstLines c script entries =
    AreEntries c.announce (length c.ports) (take (length entries) (lines_of script)) entries

-- every line of the script writes something, and what was written is the text of their run
pub record RunsWhole (wording : EventText) (c : Configuration) (script before after : List ℕ) : Type 0 where
  pub entries : List ScriptEntry
  pub lines : AreEntries c.announce (length c.ports) (lines_of script) entries
  pub text : after ≡ before ++ run_text wording c entries

-- the lines before this one, which is counted from 1, write something, this line writes nothing, and what
-- was written is the text of their run
pub record RunsToLine (wording : EventText) (n : ℕ) (c : Configuration) (script before after : List ℕ) : Type 0 where
  pub entries : List ScriptEntry
  pub number : n ≡ length entries + 1
  pub lines : FirstLines c script entries
  pub line : List ℕ
  pub rest : List (List ℕ)
  pub stands : drop (length entries) (lines_of script) ≡ line ∷ rest
  pub no_entry : (e : ScriptEntry) → ¬ (IsEntry c.announce (length c.ports) line e)
  pub text : after ≡ before ++ run_text wording c entries

-- some first lines write something, and what was written is the text of their run, whole
pub record RunsPart (wording : EventText) (c : Configuration) (script before after : List ℕ) : Type 0 where
  pub entries : List ScriptEntry
  pub lines : FirstLines c script entries
  pub text : after ≡ before ++ run_text wording c entries

-- some first lines write something, the line after them writes an event that would pass the end of a
-- count, and what was written is the text of the run of those before
pub record RunsToEnd (wording : EventText) (c : Configuration) (script before after : List ℕ) : Type 0 where
  pub entries : List ScriptEntry
  pub lines : FirstLines c script entries
  pub line : List ℕ
  pub rest : List (List ℕ)
  pub stands : drop (length entries) (lines_of script) ≡ line ∷ rest
  pub event : Event
  pub writes : IsLine (length c.ports) line event
  pub passes : passes_end (played c entries) event ≡ true
  pub text : after ≡ before ++ run_text wording c entries

-- The line after these writes something for which memory may be wanted.
pub record MemoryLine (c : Configuration) (script : List ℕ) (entries : List ScriptEntry) : Type 0 where
  pub line : List ℕ
  pub rest : List (List ℕ)
  pub stands : drop (length entries) (lines_of script) ≡ line ∷ rest
  pub entry : ScriptEntry
  pub writes : IsEntry c.announce (length c.ports) line entry
  pub wants : MayWantMemory (played c entries) entry

-- Some first lines write something, and what was written is the text of their run, whole. Either there
-- are none of them, or the line after them writes something for which memory may be wanted.
pub record RunsToMemory (wording : EventText) (c : Configuration) (script before after : List ℕ) : Type 0 where
  pub entries : List ScriptEntry
  pub lines : FirstLines c script entries
  pub cause : (entries ≡ []) ⊎ MemoryLine c script entries
  pub text : after ≡ before ++ run_text wording c entries

-- some first lines write something, and what was written is a front of the text of their run
pub record RunsFront (wording : EventText) (c : Configuration) (script before after : List ℕ) : Type 0 where
  pub entries : List ScriptEntry
  pub lines : FirstLines c script entries
  pub front : List ℕ
  pub unwritten : List ℕ
  pub parts : run_text wording c entries ≡ front ++ unwritten
  pub text : after ≡ before ++ front

-- what a replay leaves written, by its outcome
abbrev pub Replays : EventText → Configuration → Result (Unit {0}) RunFault → (script before after : List ℕ) → Type 0
Replays wording c (Ok done) script before after = RunsWhole wording c script before after
Replays wording c (Err (Line n)) script before after = RunsToLine wording n c script before after
Replays wording c (Err CountEnd) script before after = RunsToEnd wording c script before after
Replays wording c (Err Read) script before after = RunsPart wording c script before after
Replays wording c (Err Write) script before after = RunsFront wording c script before after
Replays wording c (Err Memory) script before after = RunsToMemory wording c script before after
