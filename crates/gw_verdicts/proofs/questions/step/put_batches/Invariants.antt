use Rattle.std.proofs.Common.{◌≡◌, ◌++◌, take}
use Rattle.std.specs.List.{flat_map}
use Rattle.gw_verdicts.specs.questions.Answers.{batch_lines}
use Rattle.gw_verdicts.proofs.questions.step.put_batches.Given as goal

abbrev pub invariant-loop-batch : goal.invariant-loop-batch
invariant-loop-batch l = l.text.items ≡ l.fn.text.items ++ flat_map batch_lines (take l.batch-index l.batches)
