use Rattle.std.proofs.Common.{ℕ, List, Result, Ok, Err}
use Rattle.std.specs.Global.{Vec}
use Rattle.std.specs.Prelude.{MatchResult}
use Rattle.gw_tools.specs.Reloading.{IsAnswerTo, answers_by}
use Rattle.gw_ending.specs.Ending.{IsUnanswered}
use Rattle.gw_ending.specs.reading.Files.{result_map}
use Rattle.gw_ending.specs.declared.fault.Fault.{Fault}
use Rattle.gw_tools.proofs.reloading.ask.Goals as goal

-- what is answered to the request that was made, or why nothing is
answered_so : {A : Type 0} (Asks : List ℕ → List ℕ → A → Type 0) (Answers : A → List ℕ → Type 0) (name text : List ℕ) (asked : A)
    (r : Result (Vec ℕ) Fault) → Asks name text asked → MatchResult r (λ (octets : Vec ℕ). Answers asked octets.items) IsUnanswered
    → IsAnswerTo (answers_by Asks Answers name text) (result_map (λ (octets : Vec ℕ). octets.items) r)
answered_so Asks Answers name text asked (Ok octets) asks is = (asked, asks, is)
answered_so Asks Answers name text asked (Err f) asks is = is

pub returns-in-Ok : goal.returns-in-Ok
returns-in-Ok g c =
    answered_so (g.M.Machine.Asks c.args.machine.now) g.M.Machine.Answers c.args.asking.now.request.now c.args.asking.now.text.now
    c.in-Ok.asked c.answer.result c.in-Ok.ensures c.answer.ensures
