use Rattle.std.proofs.Common.{take}
use Rattle.gw_policy_review.specs.lint.Passage.{ArePassages}
use Rattle.gw_policy_review.proofs.lint.passage.search_shapes.Given as goal

abbrev pub invariant-loop-shape : goal.invariant-loop-shape
invariant-loop-shape l = ArePassages l.rules (take l.shape-index l.shapes) l.fn.left l.rest l.found.items
