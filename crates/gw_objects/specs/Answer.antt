-- What a call that appends octets answered, held against what is to be answered.
use Rattle.std.specs.Prelude.{◌≡◌, ◌++◌, ℕ, ◌+◌, ◌≤◌, List, length, Result, Ok, Err}
use Rattle.gw_objects.specs.declared.fault.ReadFault.{ReadFault}
use Rattle.gw_objects.specs.declared.fault.ReadFault.TheVariants.{Memory}

-- Ok with those octets appended, or the fault that is due; want of memory only in the place of
-- octets
abbrev pub Answers : {X : Type 0} →
    Result X ReadFault → Result (List ℕ) ReadFault → List ℕ → List ℕ → Type 0
Answers (Ok done) (Ok octets) old new = new ≡ old ++ octets
Answers (Ok done) (Err fault) old new = ⊥
Answers (Err fault) (Ok octets) old new = fault ≡ Memory
Answers (Err fault) (Err due) old new = fault ≡ due

-- so much room was there
abbrev pub HasRoom : Result (List ℕ) ReadFault → ℕ → ℕ → Type 0
HasRoom (Ok octets) count capacity = count + length octets ≤ capacity
HasRoom (Err fault) count capacity = Unit {0}
