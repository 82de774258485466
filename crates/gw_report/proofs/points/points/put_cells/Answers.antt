use Rattle.gw_report.proofs.points_lemmas.Rows.{row_put}
use Rattle.gw_report.proofs.points.points.put_cells.Goals as goal
use Rattle.gw_report.specs.points.Points.{identity_cells, limits_cells, value_cells}
use Rattle.gw_report.specs.points.internal.View.{point_view}

pub returns : goal.returns
returns c =
    let point = point_view c.args.point.now in
    row_put c.args.out.now.items c.put_cell.new.out.items c.put_identity.new.out.items c.put_value.new.out.items c.put_limits.new.out.items c.put_end.new.out.items
    c.args.key.now (identity_cells point c.args.name.now c.args.description.now) (value_cells point) (limits_cells point)
    c.in_ok-put_cell.ensures c.in_ok-put_identity.ensures c.in_ok-put_value.ensures c.in_ok-put_limits.ensures c.in_ok-put_end.ensures
