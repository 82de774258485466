use Rattle.std.proofs.Common.{take}
use Rattle.gw_ask_sets.specs.assertions.internal.Passing.{IsPassed}
use Rattle.gw_ask_sets.proofs.assertions.passing.search_decided.Given as goal

abbrev pub invariant-loop-rule : goal.invariant-loop-rule
invariant-loop-rule l = IsPassed l.says l.regions.items l.opposed.items (take l.rule-index l.rules)
