use Rattle.std.proofs.Common.{take}
use Rattle.gw_policy_review.specs.comparison.Operations.{AreAsked}
use Rattle.gw_policy_review.proofs.comparison.operations.asked_operations.Given as goal

abbrev pub invariant-loop-shape : goal.invariant-loop-shape
invariant-loop-shape l = AreAsked (take l.shape-index l.shapes) l.region l.operations
