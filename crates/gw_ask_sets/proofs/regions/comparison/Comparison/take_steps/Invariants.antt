use Rattle.gw_ask_sets.specs.regions.Steps.{AreSteps, stage}
use Rattle.gw_ask_sets.proofs.regions.comparison.Comparison.take_steps.Given as goal

abbrev pub invariant-loop-used : goal.invariant-loop-used
invariant-loop-used l =
    AreSteps l.policies.shapes.now l.policies.old.now l.policies.new.now l.used
    (stage l.fn.self.found.items l.fn.self.left.items) (stage l.self.found.items l.self.left.items)
