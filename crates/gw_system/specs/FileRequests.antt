-- Requests by a file: whose names they use, what is given for one that is taken away, and where it is answered.
use Rattle.std.specs.Prelude.{◌≡◌, ◌≢◌, ◌⊎◌, ℕ, Bool, true, false, List, ◌++◌, Option, Some, None, Result, IfOk, codes}
use Rattle.gw_system.specs.Folder.{Holds, IsTakenAway, Known}
use Rattle.gw_system.specs.Request.{IsGiven, is_reload, status_request, stop_request}
use Rattle.gw_system.specs.Requests.{text_found}
use Rattle.gw_system.specs.declared.reading.ReadFailure.{ReadFailure}
use Rattle.gw_system.specs.declared.request.Request.{Request}
use Rattle.gw_system.specs.declared.request.Request.TheVariants as request
use Rattle.gw_system.specs.declared.store.Access.{Access}
use Rattle.gw_system.specs.declared.store.Access.TheVariants.{Owner}
use Rattle.gw_wire.specs.declared.store.StoreFault.{StoreFault}

-- A folder, and the names of the files of a request, of its answer, of where that is written first, and of the configuration; and
-- whether it was told that what has the name of a request isn't taken.
pub record RequestFiles (F : Type 0) : Type 0 where
  pub folder : F
  pub request : List ℕ
  pub answer : List ℕ
  pub beside : List ℕ
  pub config : List ℕ
  pub told : Bool

-- They are those of a request of this name to read a configuration of that name, in a folder.
pub record AreFilesOf {F : Type 0} (place : F) (name config_name : List ℕ) (files : RequestFiles F) : Type 0 where
  pub folder : files.folder ≡ place
  pub request : files.request ≡ name
  pub answer : files.answer ≡ name ++ codes ".answer"
  pub beside : files.beside ≡ name ++ codes ".answer.new"
  pub config : files.config ≡ config_name
  pub told : files.told ≡ false

-- the same names, whatever became of the files
abbrev pub HasSameNames : {F : Type 0} → (before after : RequestFiles F) → Type 0
HasSameNames before after = after ≡ record before { folder = after.folder; told = after.told }

-- What is known of every other file is as before.
abbrev pub KeepsOthers : {F : Type 0} → (F → List ℕ → Known) → (before after : RequestFiles F) → Type 0
KeepsOthers known before after = (other : List ℕ) → other ≢ before.request → other ≢ before.answer →
    known after.folder other ≡ known before.folder other

-- A request of this text was taken away, and so was an older answer.
pub record IsTaken {F : Type 0} (known : F → List ℕ → Known) (before after : RequestFiles F) (line : List ℕ) : Type 0 where
  pub held : Holds (known before.folder before.request) (Some line)
  pub taken : IsTakenAway (known before.folder before.request) (known after.folder before.request)
  pub unanswered : Holds (known after.folder before.answer) None

-- A request was taken away, whose whole text is one to read the configuration again, and this is given of what was read then.
pub record IsTakenFor {F : Type 0} (known : F → List ℕ → Known) (before after : RequestFiles F)
    (given : Result (Option (List ℕ)) ReadFailure) : Type 0 where
  pub line : List ℕ
  pub one : is_reload line ≡ true
  pub taken : IsTaken known before after line
  pub read : Result (Option (List ℕ)) ReadFailure
  pub reads : IfOk read (Holds (known after.folder before.config))
  pub gives : IsGiven line read given

-- What is taken, by what it asks for. What isn't taken is told of once.
abbrev pub IsTakenSo : {F : Type 0} → (known : F → List ℕ → Known) → (before after : RequestFiles F) → Request → Type 0
IsTakenSo known before after (request.Reload read) = IsTakenFor known before after (text_found read) × (after.told ≡ false)
IsTakenSo known before after request.Stop = IsTaken known before after stop_request × (after.told ≡ false)
IsTakenSo known before after request.Status = IsTaken known before after status_request × (after.told ≡ false)
IsTakenSo known before after request.Untaken = (before.told ≡ false) × (after.told ≡ true)

-- whether something has the name of a request that isn't taken, unless that was told before
abbrev pub IsTold : {F : Type 0} → (known : F → List ℕ → Known) → (before after : RequestFiles F) → Option Request → Type 0
IsTold known before after (Some request.Untaken) = (before.told ≡ false) × (after.told ≡ true)
IsTold known before after None =
    (Holds (known after.folder before.request) None × (after.told ≡ false)) ⊎ ((before.told ≡ true) × (after.told ≡ true))
IsTold known before after _ = ⊥

-- What looking for a request gives. If it gives none, there is nothing of its name, or it was told before that this isn't taken.
abbrev pub IsTakenBy : {F : Type 0} → (known : F → List ℕ → Known) → (before after : RequestFiles F) → Option Request → Type 0
IsTakenBy known before after (Some request) = IsTakenSo known before after request
IsTakenBy known before after None =
    (Holds (known after.folder before.request) None × (after.told ≡ false)) ⊎ ((before.told ≡ true) × (after.told ≡ true))

-- what replacing a file does: its name, that of the file beside it, who may read it, its text, and whether it was done
abbrev pub Replacing : Type 0 → Type 1
Replacing F = F → (name beside : List ℕ) → Access → List ℕ → Result (Unit {0}) StoreFault → F → Type 0

-- The file of the answer is replaced by this text, or that fails. No other file is touched but the one where it is written first.
pub record IsAnswered {F : Type 0} (known : F → List ℕ → Known) (Replaces : Replacing F) (before after : RequestFiles F) (text : List ℕ)
    : Type 0 where
  pub done : Result (Unit {0}) StoreFault
  pub replaces : Replaces before.folder before.answer before.beside Owner text done after.folder
  pub others : (other : List ℕ) → other ≢ before.answer → other ≢ before.beside → known after.folder other ≡ known before.folder other
  pub names : HasSameNames before after
