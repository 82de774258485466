use Rattle.std.proofs.Common.{◌≡◌, map, take}
use Rattle.gw_core.specs.Asked.{asked_from}
use Rattle.gw_core.proofs.asked.all_of.Given as goal

abbrev pub invariant-loop-verdict : goal.invariant-loop-verdict
invariant-loop-verdict l = l.all ≡ map (asked_from l.whom) (take l.verdict-index l.verdicts)
