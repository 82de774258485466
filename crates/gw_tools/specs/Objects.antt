-- What `log --json` and `why --json` leave written, at each outcome: over the definitions of `gw_json`.
use Rattle.std.specs.Prelude.{◌≡◌, ℕ, List, Option, Result, Ok, Err}
use Rattle.gw_log_words.specs.Translation.{RefusesNone}
use Rattle.gw_json.specs.Log.{IsEntryIn}
use Rattle.gw_json.specs.Why.{IsAnswerIn, SaysNoAsk, place_members}
use Rattle.gw_script.specs.Known.{OnKnown}
use Rattle.gw_tools.specs.Placed.{IsPlacedIn}
use Rattle.gw_tools.specs.declared.placed.Placed.{Placed}
use Rattle.gw_tools.specs.Lines.{Leaves}
use Rattle.gw_ending.specs.declared.fault.Fault.{Fault}

-- `before` was written before the lines of this log were written as objects with this outcome, and `after` when that ended
abbrev pub Lists : List ℕ → List ℕ → Result (Unit {0}) Fault → List ℕ → Type 0
Lists = Leaves IsEntryIn RefusesNone

-- the same of the answers to asks by the rules of a configuration, with their notes and the lines of its tables
abbrev pub Judges : Placed → List ℕ → List ℕ → Result (Unit {0}) Fault → List ℕ → Type 0
Judges p = Leaves (IsAnswerIn p.config.rules p.config.notes (place_members p.config.tables p.lines.items)) SaysNoAsk

-- What `why --json` leaves by the rules of the configuration that was read. If there is none, the outcome is why.
abbrev pub LeavesJudged : Option (List ℕ) → Option (List ℕ) → Option (List ℕ) → Result Placed Fault
    → Result (Unit {0}) Fault → Type 0
LeavesJudged input held holds (Ok p) outcome =
    OnKnown input held holds (λ text before. Judges p text before outcome)
LeavesJudged input held holds (Err f) outcome = (outcome ≡ Err f) × (holds ≡ held)

-- What it leaves by those of the file of this name.
abbrev pub LeavesJudgedIn : (Reads : List ℕ → Result (List ℕ) Fault → Type 0) → List ℕ → Option (List ℕ) → Option (List ℕ)
    → Option (List ℕ) → Result (Unit {0}) Fault → Type 0
LeavesJudgedIn Reads file input held holds outcome =
    (p : Result Placed Fault) × IsPlacedIn Reads file p × LeavesJudged input held holds p outcome
