use Rattle.std.proofs.Common.{take}
use Rattle.gw_policy_drafts.specs.suggestion.Given.{AddsAll, filled_from}
use Rattle.gw_policy_drafts.proofs.suggestion.given.add_akin.Given as goal

abbrev pub invariant-loop-b : goal.invariant-loop-b
invariant-loop-b l = AddsAll l.fn.all l.all (filled_from (take l.b-index l.given) l.a)
