-- What reported lines leave written, from what the report and the flush after it leave.
use Rattle.std.proofs.Common.{true, false, Bool, ℕ, List, Result, Ok, Err}
use Rattle.gw_script.proofs.LinesLemmas.{whole_is_front}
use Rattle.gw_script.specs.Lines.{LeavesLines}
use Rattle.gw_script.specs.declared.lines.LinesFault.{LinesFault}
use Rattle.gw_script.specs.declared.lines.LinesFault.TheVariants as lines
use Rattle.gw_tools.specs.Lines.{Leaves, first_lines_fault}

-- the flush changes nothing of what is left written, and its failure is reported after a report without a fault
pub flushed_lines : (Translates : List ℕ → List ℕ → Type 0) (Refuses : List ℕ → Type 0) (text before after : List ℕ)
    (r : Result (Unit {0}) LinesFault) (is_flushed : Bool) → LeavesLines Translates Refuses r text before after
    → Leaves Translates Refuses text before (first_lines_fault r is_flushed) after
flushed_lines Translates Refuses text before after (Ok done) true leaves = leaves
flushed_lines Translates Refuses text before after (Ok done) false leaves = whole_is_front Translates text before after leaves
flushed_lines Translates Refuses text before after (Err (lines.Line n)) flushed leaves = leaves
flushed_lines Translates Refuses text before after (Err lines.Read) flushed leaves = leaves
flushed_lines Translates Refuses text before after (Err lines.Write) flushed leaves = leaves
flushed_lines Translates Refuses text before after (Err lines.Memory) flushed leaves = leaves
