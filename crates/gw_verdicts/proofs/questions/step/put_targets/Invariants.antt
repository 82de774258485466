use Rattle.std.proofs.Common.{◌≡◌, ◌++◌, take}
use Rattle.gw_verdicts.specs.questions.Answers.{target_lines}
use Rattle.gw_verdicts.proofs.questions.step.put_targets.Given as goal

abbrev pub invariant-loop-target : goal.invariant-loop-target
invariant-loop-target l = l.text.items ≡ l.fn.text.items ++ target_lines l.port (take l.target-index l.targets)
