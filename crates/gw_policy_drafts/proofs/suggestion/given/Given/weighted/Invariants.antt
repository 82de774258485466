use Rattle.std.proofs.Common.{◌≡◌, map, take}
use Rattle.gw_policy_drafts.proofs.suggestion.given.Given.weighted.Given as goal

abbrev pub invariant-loop-place : goal.invariant-loop-place
invariant-loop-place l = map (λ each. each.ask) l.weighted.items ≡ take l.place l.asks
