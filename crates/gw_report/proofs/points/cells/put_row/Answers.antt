use Rattle.std.proofs.Common.{Bor, List, ℕ}
use Rattle.gw_report.proofs.points_lemmas.Rows.{line_put}
use Rattle.gw_report.proofs.points.cells.put_row.Goals as goal

pub returns : goal.returns
returns c =
    line_put (λ (cell : Bor (List ℕ)). cell.now) c.args.out.now.items c.put_cell.new.out.items c.put_others.new.out.items c.put_end.new.out.items c.args.first.now c.args.others.now
    c.in_ok-put_cell.ensures c.in_ok-put_others.ensures c.in_ok-put_end.ensures
