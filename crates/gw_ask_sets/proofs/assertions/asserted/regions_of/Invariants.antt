use Rattle.std.proofs.Common.{◌≡◌, map, take}
use Rattle.gw_ask_sets.specs.shapes.Regions.{region_of}
use Rattle.gw_ask_sets.proofs.assertions.asserted.regions_of.Given as goal

abbrev pub invariant-loop-shape : goal.invariant-loop-shape
invariant-loop-shape l = l.regions.items ≡ map region_of (take l.shape-index l.shapes)
