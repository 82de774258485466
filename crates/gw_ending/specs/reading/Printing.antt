-- What printing leaves of a text, and what is left of a fault.
use Rattle.std.specs.Prelude.{◌≡◌, ◌⊎◌, true, ℕ, List, ◌++◌, Option, Result, Ok, Err}
use Rattle.std.specs.Io.KnownBytes.{Appends}
use Rattle.gw_ending.specs.declared.fault.Fault.{Fault}
use Rattle.gw_ending.specs.declared.fault.Fault.TheVariants as fault
use Rattle.gw_ending.specs.reading.Configured.{FaultNote}
use Rattle.gw_ending.specs.declared.reading.printing.Said.{Said}

-- known octets grow by a front of a text
pub record AppendsFront (held holds : Option (List ℕ)) (text : List ℕ) : Type 0 where
  pub front : List ℕ
  pub unwritten : List ℕ
  pub parts : text ≡ front ++ unwritten
  pub appends : Appends held holds front

-- What is left at a fault: where it is, of which a failed write may leave a front.
abbrev pub LeavesFault : Result (List ℕ) Fault → Fault → Option (List ℕ) → Option (List ℕ) → Type 0
LeavesFault text f held holds = (note : List ℕ) × FaultNote true text f note × AppendsFront held holds note

-- What printing leaves of a text that was made, of which a failed write may leave a front; or of why none was.
abbrev pub LeavesPrinted : Result (List ℕ) Fault → Option (List ℕ) → Option (List ℕ) → Result (Unit {0}) Fault → Type 0
LeavesPrinted (Ok text) held holds (Ok done) = Appends held holds text
LeavesPrinted (Ok text) held holds (Err f) = (f ≡ fault.Write) × AppendsFront held holds text
LeavesPrinted (Err f) held holds outcome = (outcome ≡ Err f) × (holds ≡ held)

-- What printing leaves of a text after which a command ends so; a failed write may leave a front of it.
abbrev pub LeavesEnding : (text : List ℕ) → (ends : Result (Unit {0}) Fault) → Option (List ℕ) → Option (List ℕ)
    → Result (Unit {0}) Fault → Type 0
LeavesEnding text ends held holds outcome =
    ((outcome ≡ ends) × Appends held holds text) ⊎ ((outcome ≡ Err fault.Write) × AppendsFront held holds text)

-- What printing leaves of what a command says, of which a failed write may leave a front; or of why it says nothing.
abbrev pub LeavesSaid : Result Said Fault → Option (List ℕ) → Option (List ℕ) → Result (Unit {0}) Fault → Type 0
LeavesSaid (Ok said) held holds outcome =
    ((outcome ≡ said.ends) × Appends held holds said.text.items)
    ⊎ ((outcome ≡ Err said.unprinted) × AppendsFront held holds said.text.items)
LeavesSaid (Err f) held holds outcome = (outcome ≡ Err f) × (holds ≡ held)
