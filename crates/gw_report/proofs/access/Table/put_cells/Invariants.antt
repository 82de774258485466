use Rattle.gw_rules.specs.declared.operation.TheConstants.Operation.{ALL}
use Rattle.gw_report.specs.Report.{IsCellText}
use Rattle.gw_policy_review.proofs.permissions_lemmas.InTurn.{Turned}
use Rattle.gw_report.proofs.access.Table.put_cells.Given as goal

abbrev pub invariant-loop-operation : goal.invariant-loop-operation
invariant-loop-operation l =
    Turned (λ place operation. IsCellText l.self.rules.now l.self.own.now l.self.shapes.now l.whence operation) ALL l.operation-index l.fn.left
    l.rest l.fn.page l.page
