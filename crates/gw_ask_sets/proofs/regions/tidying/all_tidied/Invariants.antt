use Rattle.std.proofs.Common.{◌≡◌, take}
use Rattle.gw_ask_sets.specs.regions.Tidying.{all_tidied}
use Rattle.gw_ask_sets.proofs.regions.tidying.all_tidied.Given as goal

abbrev pub invariant-loop-rule : goal.invariant-loop-rule
invariant-loop-rule l = l.made.items ≡ all_tidied (take l.rule-index l.rules)
