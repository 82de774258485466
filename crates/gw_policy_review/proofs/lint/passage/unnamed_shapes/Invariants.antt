use Rattle.std.proofs.Common.{◌≡◌, take}
use Rattle.std.specs.List.{flat_map}
use Rattle.gw_policy_review.specs.lint.Passage.{unnamed_of}
use Rattle.gw_policy_review.proofs.lint.passage.unnamed_shapes.Given as goal

abbrev pub invariant-loop-shape : goal.invariant-loop-shape
invariant-loop-shape l = l.made.items ≡ flat_map (unnamed_of l.device) (take l.shape-index l.shapes)
