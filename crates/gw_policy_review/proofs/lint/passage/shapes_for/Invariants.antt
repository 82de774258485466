use Rattle.std.proofs.Common.{◌≡◌, take}
use Rattle.std.specs.List.{filter}
use Rattle.gw_policy_review.specs.lint.Passage.{is_for}
use Rattle.gw_policy_review.proofs.lint.passage.shapes_for.Given as goal

abbrev pub invariant-loop-shape : goal.invariant-loop-shape
invariant-loop-shape l = l.made.items ≡ filter (is_for l.operation) (take l.shape-index l.shapes)
