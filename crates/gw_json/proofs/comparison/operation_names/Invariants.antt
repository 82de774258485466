use Rattle.std.proofs.Common.{◌≡◌, take}
use Rattle.std.specs.List.{flat_map}
use Rattle.gw_json.specs.Comparison.{named_operation}
use Rattle.gw_json.specs.internal.View.{values_view}
use Rattle.gw_json.proofs.comparison.operation_names.Given as goal

abbrev pub invariant-loop-operation : goal.invariant-loop-operation
invariant-loop-operation l = values_view l.names.items ≡ flat_map (named_operation l.fn.values) (take l.operation-index l.fn.operations)
