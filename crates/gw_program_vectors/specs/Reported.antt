-- What a run of the program writes to a standard error that takes all.
use Rattle.std.specs.Prelude.{◌≡◌, ℕ, List, ◌++◌, Result}
use Rattle.gw_command_line.specs.declared.command_line.Choice.{Choice}
use Rattle.gw_ending.specs.Ending.{status_after}
use Rattle.gw_ending.specs.declared.fault.Fault.{Fault}
use Rattle.gw_shell.specs.Ending.{PlaceBy, error_text_by, usage_of}
use Rattle.gw_shell.specs.Program.{IsQuiet}

-- A run of words that make a choice wrote this there and ended with this status: what it said of what it did, where a fault is, the line
-- of that, and how the program is called. `Reads` is what files give, `Chooses` what the words ask for.
pub record IsReported (Reads : List ℕ → Result (List ℕ) Fault → Type 0) (Chooses : Result Choice Fault → Type 0)
    (written : List ℕ) (exit : ℕ) : Type 0 where
  pub choice : Result Choice Fault
  pub outcome : Result (Unit {0}) Fault
  pub said : List ℕ
  pub place : List ℕ
  pub words : Chooses choice
  pub quiet : IsQuiet choice said
  pub placed : PlaceBy Reads choice outcome place
  pub lines : written ≡ said ++ place ++ error_text_by choice outcome ++ usage_of choice
  pub status : exit ≡ status_after outcome
