use Rattle.std.proofs.Common.{◌≡◌, ◌++◌, take}
use Rattle.std.specs.Prelude.{codes}
use Rattle.std.specs.List.{flat_map}
use Rattle.gw_rules.specs.Operation.{operation_name}
use Rattle.gw_policy_review.proofs.comparison.words.put_more_names.Given as goal

abbrev pub invariant-loop-operation : goal.invariant-loop-operation
invariant-loop-operation l = l.out.items ≡ l.fn.out.items ++ flat_map (λ other. codes " or " ++ operation_name other) (take l.operation-index l.operations)
