use Rattle.std.proofs.Common.{take}
use Rattle.std.specs.List.{AllByRecursion}
use Rattle.gw_verdicts.specs.Laws.{IsInstance}
use Rattle.gw_verdicts.proofs.laws.have_instances.Given as goal

abbrev pub invariant-loop-object : goal.invariant-loop-object
invariant-loop-object l = AllByRecursion IsInstance (take l.object-index l.objects)
