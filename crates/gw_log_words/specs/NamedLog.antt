-- What a log holds that is kept in files which one after the other have its name.
use Rattle.std.specs.Prelude.{◌≡◌, ⊤, ℕ, Bool, true, false, List, [], ◌++◌, Option, Some, None, Result, Ok, Err, IsErr}
use Rattle.std.specs.Io.KnownBytes.{Keeps}
use Rattle.gw_script.specs.declared.sink.WriteFailed.{WriteFailed}
use Rattle.gw_log_words.specs.declared.named_log.NamedLog.{NamedLog}

-- what files that were left were given, and then another one, if both is known
abbrev pub joined : Option (List ℕ) → Option (List ℕ) → Option (List ℕ)
joined None file = None
joined (Some left) None = None
joined (Some left) (Some octets) = Some (left ++ octets)

-- a new file was given nothing, if what those before it were given is known
abbrev pub BeginsEmpty : Option (List ℕ) → Option (List ℕ) → Type 0
BeginsEmpty None next = ⊤
BeginsEmpty (Some before) next = next ≡ Some []

-- ---- what lasts

-- The file of a log was made to last by a sync, if something was written to it since the last one: by the outcome of that, nothing is
-- unsynced then. Else the log stays as it is, and the file isn't synced.
abbrev pub IsSyncedIf : {F File : Type 0} → (Syncs : File → Result (Unit {0}) WriteFailed → File → Type 0) → (unsynced : Bool)
    → NamedLog F File → Result (Unit {0}) WriteFailed → NamedLog F File → Type 0
IsSyncedIf Syncs true was (Ok done) is = Syncs was.file (Ok done) is.file × (is.is_unsynced ≡ false)
IsSyncedIf Syncs true was (Err failed) is = Syncs was.file (Err failed) is.file
IsSyncedIf Syncs false was outcome is = (outcome ≡ Ok tt) × (is ≡ was)

pub record IsFileSynced {F File : Type 0} (Syncs : File → Result (Unit {0}) WriteFailed → File → Type 0)
    (held : File → Option (List ℕ)) (was : NamedLog F File) (outcome : Result (Unit {0}) WriteFailed) (is : NamedLog F File) : Type 0 where
  pub synced : IsSyncedIf Syncs was.is_unsynced was outcome is
  pub files : is.files ≡ was.files
  pub keeps : Keeps (held was.file) (held is.file)
  pub failed : is.has_failed ≡ was.has_failed

-- A log is synced so; but if a file that was left couldn't be, the log can't be synced any more.
abbrev pub IsLogSyncedIf : {F File : Type 0} → (Syncs : File → Result (Unit {0}) WriteFailed → File → Type 0) → (File → Option (List ℕ))
    → (failed : Bool) → NamedLog F File → Result (Unit {0}) WriteFailed → NamedLog F File → Type 0
IsLogSyncedIf Syncs held true was outcome is = IsErr outcome × (is ≡ was)
IsLogSyncedIf Syncs held false was outcome is = IsFileSynced Syncs held was outcome is

abbrev pub IsLogSynced : {F File : Type 0} → (Syncs : File → Result (Unit {0}) WriteFailed → File → Type 0) → (File → Option (List ℕ))
    → NamedLog F File → Result (Unit {0}) WriteFailed → NamedLog F File → Type 0
IsLogSynced Syncs held was outcome is = IsLogSyncedIf Syncs held was.has_failed was outcome is
