-- What commands say, and what is left of it.
use Rattle.std.specs.Prelude.{◌≡◌, ℕ, List, Option, Some, Result, Ok, Err}
use Rattle.gw_configuration.specs.Configuration.{Configuration}
use Rattle.gw_ending.specs.Ending.{of_other}
use Rattle.gw_ending.specs.declared.fault.Fault.{Fault}
use Rattle.gw_ending.specs.declared.fault.Fault.TheVariants as fault
use Rattle.gw_ending.specs.declared.reading.printing.Said.{Said}
use Rattle.gw_ending.specs.reading.Configured.{IsConfigured}
use Rattle.gw_ending.specs.reading.Printing.{LeavesSaid}
use Rattle.gw_tools.specs.Placed.{IsPlacedIn}
use Rattle.gw_tools.specs.declared.placed.Placed.{Placed}

-- ---- a text

-- memory ran out
abbrev pub IsMemory : Fault → Type 0
IsMemory f = f ≡ fault.Memory

-- A text of which this is true with how the command ends after it, and with `Write` if it can't be printed; or why nothing is said.
abbrev pub Says : (Is : List ℕ → Result (Unit {0}) Fault → Type 0) → (Fails : Fault → Type 0) → Result Said Fault → Type 0
Says Is Fails (Ok said) = Is said.text.items said.ends × (said.unprinted ≡ fault.Write)
Says Is Fails (Err f) = Fails f

-- A text that is made so, after which the command ends well; or why none is made.
abbrev pub SaysMade : (IsMade : Result (List ℕ) Fault → Type 0) → Result Said Fault → Type 0
SaysMade IsMade (Ok said) = IsMade (Ok said.text.items) × (said.ends ≡ Ok tt) × (said.unprinted ≡ fault.Write)
SaysMade IsMade (Err f) = IsMade (Err f)

-- A note of a fault, with which the command ends even if the note can't be printed.
abbrev pub SaysFault : (IsNote : List ℕ → Type 0) → Fault → Result Said Fault → Type 0
SaysFault IsNote f (Ok said) = IsNote said.text.items × (said.ends ≡ Err f) × (said.unprinted ≡ f)
SaysFault IsNote f (Err _) = ⊥

-- ---- what it is said of

-- what is said of what was read, or why nothing was
abbrev pub SaysOf : {A : Type 0} → (Says : A → Result Said Fault → Type 0) → Result A Fault → Result Said Fault → Type 0
SaysOf Says (Ok read) said = Says read said
SaysOf Says (Err f) said = said ≡ Err f

-- The same of two. If there is no first or no second one, that is why nothing is said.
abbrev pub SaysOfBoth : {A : Type 0} → (Says : A → A → Result Said Fault → Type 0) → (old new : Result A Fault)
    → Result Said Fault → Type 0
SaysOfBoth Says (Ok old) (Ok new) said = Says old new said
SaysOfBoth Says (Ok old) (Err f) said = said ≡ Err (of_other f)
SaysOfBoth Says (Err f) new said = said ≡ Err f

-- of the text of the file of this name, or of why none was read
abbrev pub SaysOfFile : (Reads : List ℕ → Result (List ℕ) Fault → Type 0) → (file : List ℕ)
    → (Says : Result (List ℕ) Fault → Result Said Fault → Type 0) → Result Said Fault → Type 0
SaysOfFile Reads file Says said = (text : Result (List ℕ) Fault) × Reads file text × Says text said

-- of the configuration in it
abbrev pub SaysIn : (Reads : List ℕ → Result (List ℕ) Fault → Type 0) → (file : List ℕ)
    → (Says : Configuration → Result Said Fault → Type 0) → Result Said Fault → Type 0
SaysIn Reads file Says said = (c : Result Configuration Fault) × IsConfigured Reads (Some file) c × SaysOf Says c said

-- of that with the lines of its tables
abbrev pub SaysPlacedIn : (Reads : List ℕ → Result (List ℕ) Fault → Type 0) → (file : List ℕ)
    → (Says : Placed → Result Said Fault → Type 0) → Result Said Fault → Type 0
SaysPlacedIn Reads file Says said = (p : Result Placed Fault) × IsPlacedIn Reads file p × SaysOf Says p said

-- ---- what is left of it

-- what is said so is printed
abbrev pub Prints : (Says : Result Said Fault → Type 0) → Option (List ℕ) → Option (List ℕ) → Result (Unit {0}) Fault → Type 0
Prints Says held holds outcome = (said : Result Said Fault) × Says said × LeavesSaid said held holds outcome
