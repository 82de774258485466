-- The parts of replacing a file: its text is written beside it; and the file gets its name.
use Rattle.std.specs.Prelude.{◌≡◌, ◌≢◌, ◌<◌, ◌≤◌, ℕ, false, List, Some, Result, OnOk, OnErr}
use Rattle.gw_system.specs.Disk.{Change, failures, state_of}
use Rattle.gw_system.specs.Replacing.{IsKept, IsReplacing, IsShowing, Throughout}
use Rattle.gw_system.specs.declared.store.Access.{Access}
use Rattle.gw_wire.specs.declared.store.StoreFault.{StoreFault}

-- of all names no other one has changed
abbrev pub IsElsewhereSame : (name : List ℕ) → (before now : List Change) → Type 0
IsElsewhereSame name before now = (other : List ℕ) → other ≢ name → state_of now other ≡ state_of before other

-- A new file of a name got a text, or that failed. No other name was touched.
pub record IsNewFile {T : Type 0} (name : List ℕ) (access : Access) (text : List ℕ) (result : Result T StoreFault)
    (before after : List Change) : Type 0 where
  pub only : Throughout (IsElsewhereSame name before) before after
  pub file : OnOk result ((state_of after name).file ≡ Some (record { text = text; access = access; synced = false }))
  pub fails : failures before ≤ failures after
  pub cause : OnErr result (failures before < failures after)

-- A file was replaced by a text that is kept, or that failed.
pub record IsSettled (name beside : List ℕ) (access : Access) (text : List ℕ) (result : Result (Unit {0}) StoreFault)
    (before after : List Change) : Type 0 where
  pub moments : Throughout (IsReplacing name beside text before) before after
  pub done : OnOk result (IsKept access text (state_of after name))
  pub cause : OnErr result (failures before < failures after)

-- A file was replaced by a text, or that failed.
pub record HasShown (name beside : List ℕ) (access : Access) (text : List ℕ) (result : Result (Unit {0}) StoreFault)
    (before after : List Change) : Type 0 where
  pub moments : Throughout (IsShowing name beside text before) before after
  pub done : OnOk result ((state_of after name).file ≡ Some (record { text = text; access = access; synced = false }))
  pub cause : OnErr result (failures before < failures after)
