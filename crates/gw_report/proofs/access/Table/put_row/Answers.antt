use Rattle.gw_report.proofs.Cells.{row_put}
use Rattle.gw_report.proofs.access.Table.put_row.Goals as goal

pub returns : goal.returns
returns c =
    let self = c.args.self.now in
    row_put self.rules.now self.own.now self.shapes.now c.args.whence c.args.left c.in_ok-rest.rest c.new-cells.result c.put_cells.new.page
    c.args.page.now c.put_whole_row.new.page c.new-cells.ensures c.in_ok-rest.ensures c.in_ok-put_whole_row.ensures
