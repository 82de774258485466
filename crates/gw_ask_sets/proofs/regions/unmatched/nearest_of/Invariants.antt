use Rattle.std.proofs.Common.{take}
use Rattle.gw_ask_sets.specs.regions.internal.Nearest.{IsNearest}
use Rattle.gw_ask_sets.proofs.regions.unmatched.nearest_of.Given as goal

abbrev pub invariant-loop-place : goal.invariant-loop-place
invariant-loop-place l = IsNearest (take l.place l.rules) l.rules l.region l.found
