-- What is left written where a text is put into words line by line, at each outcome: over the definitions of `gw_script`.
use Rattle.std.specs.Prelude.{ℕ, Bool, true, false, List, Result, Ok, Err}
use Rattle.gw_script.specs.Lines.{TranslatesFront, TranslatesPart, TranslatesToLine, TranslatesWhole}
use Rattle.gw_script.specs.declared.lines.LinesFault.{LinesFault}
use Rattle.gw_ending.specs.Ending.{fault_of_lines}
use Rattle.gw_ending.specs.declared.fault.Fault.{Fault}
use Rattle.gw_ending.specs.declared.fault.Fault.TheVariants as fault

-- `before` was written before the lines of this text were reported, by what `Translates` and `Refuses` say of a line, with this
-- outcome, and `after` when that ended
abbrev pub Leaves : (List ℕ → List ℕ → Type 0) → (List ℕ → Type 0) → List ℕ → List ℕ → Result (Unit {0}) Fault → List ℕ
    → Type 0
Leaves Translates Refuses text before (Ok done) after = TranslatesWhole Translates text before after
Leaves Translates Refuses text before (Err (fault.Line n)) after = TranslatesToLine Translates Refuses n text before after
Leaves Translates Refuses text before (Err fault.Read) after = TranslatesPart Translates text before after
Leaves Translates Refuses text before (Err fault.Write) after = TranslatesFront Translates text before after
Leaves Translates Refuses text before (Err fault.Memory) after = TranslatesPart Translates text before after
Leaves Translates Refuses text before (Err _) after = ⊥

-- the first fault of the lines and of the flush after them
abbrev pub first_lines_fault : Result (Unit {0}) LinesFault → Bool → Result (Unit {0}) Fault
first_lines_fault (Ok done) true = Ok done
first_lines_fault (Ok done) false = Err fault.Write
first_lines_fault (Err of_lines) flushed = Err (fault_of_lines of_lines)
