use Rattle.std.proofs.Common.{◌≡◌, ◌++◌, take}
use Rattle.std.specs.List.{flat_map}
use Rattle.gw_report.specs.points.Cells.{next_text}
use Rattle.gw_report.proofs.points.cells.put_others.Given as goal

abbrev pub invariant-loop-cell : goal.invariant-loop-cell
invariant-loop-cell l = l.out.items ≡ l.fn.out.items ++ flat_map (λ cell. next_text cell.now) (take l.cell-index l.fn.cells)
