use Rattle.std.proofs.Common.{◌≡◌, ◌∷◌, [], take}
use Rattle.std.specs.Prelude.{if◌then◌else◌}
use Rattle.std.specs.List.{flat_map}
use Rattle.gw_rules.specs.declared.operation.TheConstants.Operation.{ALL}
use Rattle.gw_ask_sets.specs.regions.Values.{has_operation}
use Rattle.gw_policy_review.proofs.comparison.words.operations_of.Given as goal

abbrev pub invariant-loop-operation : goal.invariant-loop-operation
invariant-loop-operation l = l.operations.items ≡ flat_map (λ operation. if has_operation l.values operation then operation ∷ [] else []) (take l.operation-index ALL)
