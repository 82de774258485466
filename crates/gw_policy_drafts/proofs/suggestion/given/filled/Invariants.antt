use Rattle.std.proofs.Common.{[], take}
use Rattle.std.specs.List.{flat_map}
use Rattle.gw_policy_drafts.specs.suggestion.Given.{AddsAll, filled_from}
use Rattle.gw_policy_drafts.proofs.suggestion.given.filled.Given as goal

abbrev pub invariant-loop-a : goal.invariant-loop-a
invariant-loop-a l = AddsAll [] l.all (flat_map (filled_from l.given) (take l.a-index l.given))
