use Rattle.std.proofs.Common.{length, refl, rules, ◌≤◌}
use Rattle.std.proofs.lemmas.List.{drop_all}
use Rattle.gw_rules.specs.declared.operation.TheConstants.Operation.{ALL}
use Rattle.gw_report.specs.Report.{IsCellText, extent_cell}
use Rattle.gw_policy_review.proofs.permissions_lemmas.InTurn.{turned_all, turned_more, turned_none}
use Rattle.gw_report.proofs.access.Table.put_cells.Goals as goal

pub loop-operation-init : goal.loop-operation-init
loop-operation-init c =
    let self = c.args.self.now in
    turned_none (λ place operation. IsCellText self.rules.now self.own.now self.shapes.now c.args.whence operation) ALL c.args.left c.args.page.now

pub loop-operation-preserved : goal.loop-operation-preserved
loop-operation-preserved c =
    let self = c.args.self.now in
    let cell = c.in_ok-cell.cell in
    turned_more (λ place operation. IsCellText self.rules.now self.own.now self.shapes.now c.args.whence operation) ALL
    c.loop-operation.operation-index _ c.args.left
    c.loop-operation.rest cell.left c.args.page.now c.loop-operation.page c.put_extent.new.page c.loop-operation-test.true c.loop-operation.invariant
    (extent_cell cell.extent, (cell.extent, c.in_ok-cell.ensures, refl), c.in_ok-put_extent.ensures)

pub returns : goal.returns
returns c =
    let self = c.args.self.now in
    let ends : length ALL ≤ c.loop-operation.operation-index = search rules in
    turned_all (λ place operation. IsCellText self.rules.now self.own.now self.shapes.now c.args.whence operation) ALL
    c.loop-operation.operation-index c.args.left
    c.loop-operation.rest c.args.page.now c.loop-operation.page (drop_all c.loop-operation.operation-index ALL ends) c.loop-operation.invariant
