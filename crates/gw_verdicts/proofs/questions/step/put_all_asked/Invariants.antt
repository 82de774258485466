use Rattle.std.proofs.Common.{◌≡◌, ◌++◌, take}
use Rattle.std.specs.List.{flat_map}
use Rattle.gw_verdicts.specs.questions.Answers.{ask_line}
use Rattle.gw_verdicts.proofs.questions.step.put_all_asked.Given as goal

abbrev pub invariant-loop-ask : goal.invariant-loop-ask
invariant-loop-ask l = l.text.items ≡ l.fn.text.items ++ flat_map (ask_line l.rules) (take l.ask-index l.asked)
