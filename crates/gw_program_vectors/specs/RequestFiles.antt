-- What the files of a folder in memory show of a request that is taken and answered.
use Rattle.std.specs.Prelude.{◌≡◌, ◌≢◌, ◌⊎◌, ⊤, ℕ, List, Option, Some, None}
use Rattle.gw_system.specs.FileRequests.{RequestFiles}
use Rattle.gw_system.specs.declared.request.Request.{Request}
use Rattle.gw_system.specs.declared.request.Request.TheVariants as request
use Rattle.gw_program_vectors.specs.Folders.{shown_by}
use Rattle.gw_program_vectors.specs.declared.mem_folder.MemFolder.{MemFolder}

-- the octets that the file of a name has, if there is one
abbrev pub shows : RequestFiles MemFolder → List ℕ → Option (List ℕ)
shows files name = shown_by files.folder.entries.items name

-- A request was there and is no more, and no answer to an older one is left.
pub record IsTakenOnce (before after : RequestFiles MemFolder) : Type 0 where
  pub line : List ℕ
  pub was : shows before before.request ≡ Some line
  pub gone : shows after before.request ≡ None
  pub unanswered : shows after before.answer ≡ None

-- so it is with each that is taken
abbrev pub IsTakenOnceBy : (before after : RequestFiles MemFolder) → Option Request → Type 0
IsTakenOnceBy before after None = ⊤
IsTakenOnceBy before after (Some request.Untaken) = ⊤
IsTakenOnceBy before after (Some _) = IsTakenOnce before after

-- The answer is in its file, or it couldn't be written, and that is as it was. No other file changed but the one where it is written
-- first.
pub record IsAnsweredThere (before after : RequestFiles MemFolder) (text : List ℕ) : Type 0 where
  pub answer : (shows after before.answer ≡ Some text) ⊎ (shows after before.answer ≡ shows before before.answer)
  pub others : (other : List ℕ) → other ≢ before.answer → other ≢ before.beside → shows after other ≡ shows before other
