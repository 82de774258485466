-- What opening a log and sockets may give.
use Rattle.std.specs.Prelude.{◌≡◌, ◌⊎◌, ⊤, ℕ, ◌≤◌, Bool, true, false, List, [], ◌∷◌, Option, Result, Ok, Err}
use Rattle.std.specs.Io.KnownBytes.{Appends}
use Rattle.gw_system.specs.declared.opening.LogFailure.{LogFailure}
use Rattle.gw_system.specs.declared.opening.LogFailure.TheVariants as log_failure
use Rattle.gw_system.specs.declared.opening.SocketFailure.{SocketFailure}
use Rattle.gw_system.specs.declared.opening.SocketFailure.TheVariants as sockets

-- a socket of one of so many ports can't be opened, or memory ran out
abbrev pub IsSocketFailure : ℕ → SocketFailure → Type 0
IsSocketFailure ports (sockets.Failed failed) = (1 ≤ failed.port) × (failed.port ≤ ports)
IsSocketFailure ports sockets.Memory = ⊤

-- what opening the log of a name may give
abbrev pub LogOpening : Type 0 → Type 1
LogOpening Log = List ℕ → Result Log LogFailure → Type 0

-- what a last line that was cut is given: its line feed
abbrev pub line_end : Bool → List ℕ
line_end true = 10 ∷ []
line_end false = []

-- A log of this name is opened so that a line begins: where its last line was cut it has been given
-- its line feed. It can't be where it isn't opened, or where that line feed can't be written.
abbrev pub OpensAtLine : {Log : Type 0} → LogOpening Log → (IsCut : List ℕ → Bool → Type 0) → (Log → Option (List ℕ))
    → LogOpening Log
OpensAtLine LogOpens IsCut held name (Ok log) =
    (opened : _) × (cut : Bool) × LogOpens name (Ok opened) × IsCut name cut
    × Appends (held opened) (held log) (line_end cut)
OpensAtLine LogOpens IsCut held name (Err f) =
    LogOpens name (Err f) ⊎ ((opened : _) × LogOpens name (Ok opened) × IsCut name true × (f ≡ log_failure.Failed))
