-- What is recorded beside the log, if something is.
use Rattle.std.specs.Prelude.{⊤, ℕ, List, Option, Some, None}
use Rattle.gw_core.specs.State.{State}
use Rattle.gw_core.specs.declared.asked.Asked.{Asked}
use Rattle.gw_rules.specs.declared.rule.Rule.{Rule}
use Rattle.gw_watchers.specs.Beside.{IsRecorded}
use Rattle.gw_watchers.specs.Records.{records}
use Rattle.gw_watchers.specs.declared.beside.Beside.{Beside}

-- the asks that a choice chooses are recorded, under the names that it has, if something is recorded
abbrev pub IsRecordedIn : {C S : Type 0} → (C → Asked → Option (Option ℕ)) → (C → List Rule → Asked → List ℕ) → (C → List Rule → List Rule)
    → (S → Option (List ℕ)) → State → List Asked → (before after : Option (Beside C S)) → Type 0
IsRecordedIn chosen front naming held w asked None None = ⊤
IsRecordedIn chosen front naming held w asked (Some b) (Some c) =
    IsRecorded held (records (chosen b.choice) (front b.choice w.rules) (naming b.choice w.rules) b.number w.ticks asked) b c
IsRecordedIn chosen front naming held w asked _ _ = ⊥
