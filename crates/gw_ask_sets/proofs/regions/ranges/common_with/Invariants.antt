use Rattle.std.proofs.Common.{◌≡◌, drop}
use Rattle.gw_ask_sets.specs.regions.Ranges.{first_number, shared_with}
use Rattle.gw_ask_sets.proofs.regions.ranges.common_with.Given as goal

abbrev pub invariant-loop-y : goal.invariant-loop-y
invariant-loop-y l = first_number (shared_with (drop l.y-index l.ys) l.x) ≡ first_number (shared_with l.ys l.x)
