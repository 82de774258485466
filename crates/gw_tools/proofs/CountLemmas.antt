-- Why asks aren't counted, as the program reports it, and lines that are answered strictly.
use Rattle.std.proofs.Common.{◌≡◌, refl, Bool, true, false, ℕ, List, [], Option, Result, Err}
use Rattle.gw_tools.specs.declared.placed.Placed.{Placed}
use Rattle.gw_rules.specs.declared.rule.Rule.{Rule}
use Rattle.gw_script.specs.declared.lines.LinesFault.{LinesFault}
use Rattle.gw_script.specs.declared.lines.LinesFault.TheVariants as lines
use Rattle.gw_decisions.specs.tally.Counting.{IsCounted}
use Rattle.gw_tools.specs.Asking.{Counts, ReportsUnread, asks_in}
use Rattle.gw_ending.specs.Ending.{fault_of_lines}
use Rattle.gw_tools.specs.Program.{LeavesAnswered}
use Rattle.gw_ending.specs.declared.fault.Fault.{Fault}

pub uncounted : (rules : List Rule) (text : List ℕ) (f : LinesFault) → IsCounted rules text (Err f) → Counts rules text (Err (fault_of_lines f))
uncounted rules text (lines.Line n) is = is
uncounted rules text lines.Read is = tt
uncounted rules text lines.Write is = absurd is
uncounted rules text lines.Memory is = tt

-- strictly all lines are answered, and nothing is reported of those that show no ask
pub strict_leaves : (strict counts : Bool) (input held holds : Option (List ℕ)) (c : Result Placed Fault) (outcome : Result (Unit {0}) Fault)
    → strict ≡ true → LeavesAnswered counts input held holds c outcome
    → LeavesAnswered counts (asks_in strict input) held holds c outcome × ReportsUnread strict outcome []
strict_leaves true counts input held holds c outcome is leaves = (leaves, refl)
strict_leaves false counts input held holds c outcome is leaves = absurd cc
