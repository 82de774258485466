-- What the files give that configurations are read from.
use Rattle.std.specs.Prelude.{⊤, ℕ, List, Option, Result, Ok, Err}
use Rattle.gw_ending.specs.declared.fault.Fault.{Fault}
use Rattle.gw_ending.specs.declared.fault.Fault.TheVariants as fault

-- what was made of what an `Ok` has
abbrev pub result_map : {A B E : Type 0} → (A → B) → Result A E → Result B E
result_map f (Ok x) = Ok (f x)
result_map f (Err e) = Err e

-- Nothing is known of what a file of the system holds. Where it can't be read, that is reported, or memory ran out.
abbrev pub IsFaultShown : Result (List ℕ) Fault → Type 0
IsFaultShown (Ok octets) = ⊤
IsFaultShown (Err (fault.Unreadable why)) = ⊤
IsFaultShown (Err fault.Memory) = ⊤
IsFaultShown (Err _) = ⊥

-- Nor of what a log that was opened holds, as far as it is known.
abbrev pub IsLogFaultShown : Result (Option (List ℕ)) Fault → Type 0
IsLogFaultShown (Ok log) = ⊤
IsLogFaultShown (Err (fault.LogUnreadable why)) = ⊤
IsLogFaultShown (Err fault.Memory) = ⊤
IsLogFaultShown (Err _) = ⊥

-- Nor of what a state's file holds.
abbrev pub IsStateFaultShown : Result (List ℕ) Fault → Type 0
IsStateFaultShown (Ok octets) = ⊤
IsStateFaultShown (Err (fault.StateUnreadable why)) = ⊤
IsStateFaultShown (Err fault.Memory) = ⊤
IsStateFaultShown (Err _) = ⊥
