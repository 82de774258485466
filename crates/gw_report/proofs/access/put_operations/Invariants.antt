use Rattle.std.proofs.Common.{◌≡◌, ◌++◌, take}
use Rattle.std.specs.List.{flat_map}
use Rattle.gw_rules.specs.declared.operation.TheConstants.Operation.{ALL}
use Rattle.gw_report.specs.Report.{operation_head}
use Rattle.gw_report.proofs.access.put_operations.Given as goal

abbrev pub invariant-loop-operation : goal.invariant-loop-operation
invariant-loop-operation l = l.page ≡ l.fn.page ++ flat_map (operation_head) (take l.operation-index ALL)
