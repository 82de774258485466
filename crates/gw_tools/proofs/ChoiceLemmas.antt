-- What was done by a choice.
use Rattle.std.proofs.Common.{◌≡◌, ℕ, List, [], Option, Result, sym, subst}
use Rattle.std.specs.Io.KnownBytes.{Appends}
use Rattle.gw_ending.specs.declared.reading.printing.Said.{Said}
use Rattle.gw_ending.specs.reading.Printing.{LeavesSaid}
use Rattle.gw_notices.proofs.AppendLemmas.{appends_nothing}
use Rattle.gw_tools.specs.Program.{IsFollowed, IsQuiet}
use Rattle.gw_tools.specs.Saying.{Prints}
use Rattle.gw_tool_line.specs.declared.command_line.Choice.{Choice}
use Rattle.gw_ending.specs.declared.fault.Fault.{Fault}

-- one that reports nothing
pub followed : (Leaves : List ℕ → Result Choice Fault → Result (Unit {0}) Fault → Type 0) (Adds : List ℕ → Type 0)
    (choice chosen : Result Choice Fault) (outcome : Result (Unit {0}) Fault)
    → choice ≡ chosen → IsQuiet chosen [] → Leaves [] chosen outcome → Adds [] → IsFollowed Leaves Adds choice outcome
followed Leaves Adds choice chosen outcome is quiet leaves adds =
    subst (λ (c : Result Choice Fault). IsFollowed Leaves Adds c outcome) (sym is) (record {
      said = [];
      output = leaves;
      quiet = quiet;
      errors = adds;
    })

-- the same by a choice that may report something
pub reported : (Leaves : List ℕ → Result Choice Fault → Result (Unit {0}) Fault → Type 0) (Adds : List ℕ → Type 0)
    (choice chosen : Result Choice Fault) (outcome : Result (Unit {0}) Fault) (said : List ℕ)
    → choice ≡ chosen → IsQuiet chosen said → Leaves said chosen outcome → Adds said → IsFollowed Leaves Adds choice outcome
reported Leaves Adds choice chosen outcome said is quiet leaves adds =
    subst (λ (c : Result Choice Fault). IsFollowed Leaves Adds c outcome) (sym is) (record {
      said = said;
      output = leaves;
      quiet = quiet;
      errors = adds;
    })

-- what printing leaves of what is the same, where nothing was printed before
pub left : (said here : Result Said Fault) (held mid holds : Option (List ℕ)) (outcome : Result (Unit {0}) Fault)
    → said ≡ here → mid ≡ held → LeavesSaid said mid holds outcome → LeavesSaid here held holds outcome
left said here held mid holds outcome is same leaves =
    subst (λ (m : Option (List ℕ)). LeavesSaid here m holds outcome) same
    (subst (λ (s : Result Said Fault). LeavesSaid s mid holds outcome) is leaves)

-- what is said so is printed
pub printed : (Says : Result Said Fault → Type 0) (said here : Result Said Fault) (held mid holds : Option (List ℕ))
    (outcome : Result (Unit {0}) Fault) → said ≡ here → mid ≡ held → LeavesSaid said mid holds outcome → Says here
    → Prints Says held holds outcome
printed Says said here held mid holds outcome is same leaves says = (here, says, left said here held mid holds outcome is same leaves)

-- nothing was appended to what is the same
pub unreported : (held holds : Option (List ℕ)) → holds ≡ held → Appends held holds []
unreported held holds same = subst (λ (h : Option (List ℕ)). Appends held h []) (sym same) (appends_nothing held)
