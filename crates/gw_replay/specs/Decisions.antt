-- How many asks of a script each rule decides: of the events of its lines, from a fresh gateway.
use Rattle.std.specs.Prelude.{◌≡◌, ◌<◌, ◌+◌, ⊤, ℕ, Bool, true, false, List, [], ◌∷◌, length, take, drop, slice_index, Option, Some, Result}
use Rattle.std.specs.Prelude.{Ok, Err}
use Rattle.gw_configuration.specs.Configuration.{Configuration}
use Rattle.gw_core.specs.Asked.{asked_at, run_asked}
use Rattle.gw_core.specs.History.{state_after, no_counts}
use Rattle.gw_replay.specs.Replay.{FirstLines}
use Rattle.gw_core.specs.State.{State}
use Rattle.gw_replay.specs.declared.counting.Uncounted.{Uncounted}
use Rattle.gw_core.specs.declared.asked.Asked.{Asked}
use Rattle.gw_replay.specs.Entry.{AreEntries, Announces, Comes, ScriptEntry, IsEntry, events_among, moved_by}
use Rattle.gw_script.specs.Script.{lines_of}
use Rattle.gw_decisions.specs.tally.Tally.{tally_text}
use Rattle.gw_decisions.specs.Counted.{AreCounted, counted_on}

-- a fresh gateway
abbrev pub fresh : Configuration → State
fresh c = state_after c no_counts []

-- there is no line, or the first writes nothing
abbrev pub BeginsWithNone : Bool → ℕ → List (List ℕ) → Type 0
BeginsWithNone announces ports [] = ⊤
BeginsWithNone announces ports (line ∷ lines) = (e : ScriptEntry) → ¬ (IsEntry announces ports line e)

-- These are the counts of the asks of a script: of the events of its lines, up to the first that writes nothing. An announcement
-- asks nothing. The first count is that of the asks that no rule decides, and after it comes one for each rule.
pub record AreDecided (c : Configuration) (script counts : List ℕ) : Type 0 where
  pub entries : List ScriptEntry
  pub lines : FirstLines c script entries
  pub ends : BeginsWithNone c.announce (length c.ports) (drop (length entries) (lines_of script))
  pub places : length counts ≡ length c.rules + 1
  pub each : (k : ℕ) → k < length counts → slice_index counts k ≡ counted_on k 0 (run_asked (fresh c) (events_among entries))

-- what is reported of them: a line for each rule, and one for no rule
pub record IsReport (c : Configuration) (script text : List ℕ) : Type 0 where
  pub counts : List ℕ
  pub decided : AreDecided c script counts
  pub lines : text ≡ tally_text c.rules counts

-- ---- line by line

-- what a line writes asks this in a state: an announcement asks nothing
abbrev pub entry_asked : State → ScriptEntry → List Asked
entry_asked w (Comes event) = asked_at w event
entry_asked w Announces = []

-- the first line writes something, whose asks are counted, and the gateway moved on by it
pub record CountsEntry (announces : Bool) (ports : ℕ) (text : List ℕ) (left : Option (List ℕ)) (w moved : State)
    (before after : List ℕ) : Type 0 where
  pub line : List ℕ
  pub entry : ScriptEntry
  pub writes : IsEntry announces ports line entry
  pub rest : List ℕ
  pub remains : left ≡ Some rest
  pub lines : lines_of text ≡ line ∷ lines_of rest
  pub moves : moved ≡ moved_by w entry
  pub counted : AreCounted before (entry_asked w entry) after

-- what comes of the first line
abbrev pub IsNext : Bool → ℕ → List ℕ → Option (List ℕ) → (w moved : State) → (before after : List ℕ) → Result Bool Uncounted → Type 0
IsNext announces ports text left w moved before after (Ok true) = CountsEntry announces ports text left w moved before after
IsNext announces ports text left w moved before after (Ok false) = BeginsWithNone announces ports (lines_of text) × (after ≡ before)
IsNext announces ports text left w moved before after (Err uncounted) = ⊤

-- the first lines of a text write these
abbrev pub AreFirst : Bool → ℕ → List ℕ → List ScriptEntry → Type 0
AreFirst announces ports text entries = AreEntries announces ports (take (length entries) (lines_of text)) entries

-- the events of a text's lines were counted, up to the first that writes nothing
pub record AreCountedFrom (announces : Bool) (ports : ℕ) (w : State) (text before after : List ℕ) : Type 0 where
  pub entries : List ScriptEntry
  pub lines : AreFirst announces ports text entries
  pub ends : BeginsWithNone announces ports (drop (length entries) (lines_of text))
  pub counted : AreCounted before (run_asked w (events_among entries)) after
