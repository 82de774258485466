-- Why not all of what `run` serves can be opened, and what is said of it.
use Rattle.std.specs.Prelude.{◌≡◌, ◌⊎◌, ℕ, Bool, true, false, List, [], ◌∷◌, ◌++◌, codes, decimal}
use Rattle.gw_addr.specs.Address.{text_of}
use Rattle.gw_system.specs.declared.opening.FailedStep.{FailedStep}
use Rattle.gw_system.specs.declared.opening.OpenFailure.{OpenFailure}
use Rattle.gw_system.specs.declared.opening.OpenFailure.TheVariants as opening
use Rattle.gw_system.specs.declared.opening.Reason.{Reason}
use Rattle.gw_system.specs.declared.opening.Reason.TheVariants as reason
use Rattle.gw_system.specs.declared.opening.SocketFailure.TheVariants as sockets
use Rattle.gw_system.specs.declared.opening.Step.{Step}
use Rattle.gw_system.specs.declared.opening.Step.TheVariants as step

-- what of a port is opened
abbrev pub step_text : Step → List ℕ
step_text step.Own = codes "own"
step_text step.Broadcast = codes "broadcast"
step_text step.Waiting = codes "waiting at"

-- why the system doesn't open it
abbrev pub reason_text : Reason → List ℕ
reason_text reason.NoAddress = codes "no address of this machine"
reason_text reason.InUse = codes "another socket has the address"
reason_text reason.NotPermitted = codes "not permitted"
reason_text reason.Other = codes "refused by the system"

-- the line on a step that failed
abbrev pub failure_text : FailedStep → List ℕ
failure_text f =
    codes "port " ++ decimal f.port ++ codes ": " ++ step_text f.step ++ codes " " ++ text_of f.address ++ codes ": "
    ++ reason_text f.reason
    ++ 10 ∷ []

-- What is reported where not all can be opened: the line of a step that failed, if there is memory for it.
abbrev pub IsNoteOf : OpenFailure → List ℕ → Type 0
IsNoteOf (opening.Sockets (sockets.Failed failed)) note = (note ≡ failure_text failed) ⊎ (note ≡ [])
IsNoteOf (opening.Sockets sockets.Memory) note = note ≡ []
IsNoteOf (opening.Log f) note = note ≡ []

-- It is reported where that is asked for.
abbrev pub IsNote : Bool → OpenFailure → List ℕ → Type 0
IsNote true failure note = IsNoteOf failure note
IsNote false failure note = note ≡ []
