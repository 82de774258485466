use Rattle.std.proofs.Common.{take}
use Rattle.gw_ask_sets.specs.shapes.Search.{AreMatched}
use Rattle.gw_ask_sets.proofs.shapes.search.matched.Given as goal

abbrev pub invariant-loop-shape : goal.invariant-loop-shape
invariant-loop-shape l = AreMatched (take l.shape-index l.shapes) l.rule l.regions.items
