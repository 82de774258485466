use Rattle.std.proofs.lemmas.Result.{on_ok_weaker}
use Rattle.gw_ask_sets.proofs.regions_lemmas.StepLaw.{counted_right}
use Rattle.gw_ask_sets.proofs.regions.comparison.Comparison.go_on.Goals as goal

pub returns-clause-comparison : goal.returns-clause-comparison
returns-clause-comparison c = on_ok_weaker c.take_steps.result (λ counted was. counted_right _ _ _ _ _ _ _ counted was) c.take_steps.ensures.counted
