use Rattle.std.proofs.Common.{◌≡◌, take}
use Rattle.gw_ask_sets.proofs.regions.matching.copies.Given as goal

abbrev pub invariant-loop-region : goal.invariant-loop-region
invariant-loop-region l = l.made.items ≡ take l.region-index l.regions
