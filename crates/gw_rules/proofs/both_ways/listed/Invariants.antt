use Rattle.std.proofs.Common.{◌≡◌, take}
use Rattle.gw_rules.proofs.both_ways.listed.Given as goal

abbrev pub invariant-loop-range : goal.invariant-loop-range
invariant-loop-range l = l.made ≡ take l.range-index l.ranges
