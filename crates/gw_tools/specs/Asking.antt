-- What `why` leaves written, at each outcome: over the definitions of `gw_verdicts`.
use Rattle.std.specs.Prelude.{◌≡◌, ⊤, ℕ, Bool, true, false, List, [], Option, Result, Ok, Err, option_map}
use Rattle.gw_verdicts.specs.asks.Asks.{ask_lines}
use Rattle.gw_verdicts.specs.Why.{IsAnswered, ShowsNoAsk}
use Rattle.gw_rules.specs.declared.rule.Rule.{Rule}
use Rattle.gw_tools.specs.Lines.{Leaves}
use Rattle.gw_tools.specs.Unread.{unread_after}
use Rattle.gw_decisions.specs.tally.Counting.{CountsAll, EndsAtLine}
use Rattle.gw_decisions.specs.tally.Tally.{tally_text}
use Rattle.gw_ending.specs.declared.fault.Fault.{Fault}
use Rattle.gw_ending.specs.declared.fault.Fault.TheVariants as fault

-- `before` was written before the asks of this text were answered by these rules, of which this is said, with this outcome, and
-- `after` when that ended
abbrev pub Answers : List Rule → (said : Option ℕ → List ℕ) → List ℕ → List ℕ → Result (Unit {0}) Fault → List ℕ → Type 0
Answers rules said = Leaves (IsAnswered rules said) ShowsNoAsk

-- how many of the asks of a text each of these rules decides, in lines; or the first line that says none
abbrev pub Counts : List Rule → List ℕ → Result (List ℕ) Fault → Type 0
Counts rules text (Ok lines) = (counts : List ℕ) × CountsAll rules text counts × (lines ≡ tally_text rules counts)
Counts rules text (Err (fault.Line n)) = EndsAtLine n text
Counts rules text (Err fault.Read) = ⊤
Counts rules text (Err fault.Memory) = ⊤
Counts rules text (Err _) = ⊥

-- ---- lines with something in front, and lines that show no ask

-- the lines that `why` answers: strictly all that there are, else the own fields of those that show an ask
abbrev pub asks_in : (strict : Bool) → Option (List ℕ) → Option (List ℕ)
asks_in true input = input
asks_in false input = option_map ask_lines input

-- What is reported of the lines that show no ask: strictly nothing, since one is a fault then.
abbrev pub ReportsUnread : (strict : Bool) → Result (Unit {0}) Fault → (said : List ℕ) → Type 0
ReportsUnread true outcome said = said ≡ []
ReportsUnread false outcome said = (n : ℕ) × (said ≡ unread_after n outcome)
