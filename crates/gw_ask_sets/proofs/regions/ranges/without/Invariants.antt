use Rattle.std.proofs.Common.{◌≡◌, drop}
use Rattle.gw_ask_sets.specs.regions.Ranges.{without}
use Rattle.gw_ask_sets.proofs.regions.ranges.without.Given as goal

abbrev pub invariant-loop-y : goal.invariant-loop-y
invariant-loop-y l = without l.rest (drop l.y-index l.ys) ≡ without l.xs l.ys
