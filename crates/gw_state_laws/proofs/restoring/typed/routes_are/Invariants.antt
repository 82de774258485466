use Rattle.std.proofs.Common.{take}
use Rattle.std.specs.List.{AllByRecursion}
use Rattle.gw_state_text.specs.Fit.{IsRoute}
use Rattle.gw_state_laws.proofs.restoring.typed.routes_are.Given as goal

abbrev pub invariant-loop-learned : goal.invariant-loop-learned
invariant-loop-learned l = AllByRecursion IsRoute (take l.learned-index l.routes)
