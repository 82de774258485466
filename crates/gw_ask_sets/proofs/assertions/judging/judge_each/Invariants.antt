use Rattle.std.proofs.Common.{take}
use Rattle.gw_ask_sets.specs.assertions.Judging.{AreEachJudged}
use Rattle.gw_ask_sets.proofs.assertions.judging.judge_each.Given as goal

abbrev pub invariant-loop-assertion : goal.invariant-loop-assertion
invariant-loop-assertion l = AreEachJudged l.config l.steps (take l.assertion-index l.assertions) l.judged.items
