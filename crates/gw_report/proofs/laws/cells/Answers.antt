use Rattle.gw_report.proofs.Cells.{cells_are_true}
use Rattle.gw_report.proofs.laws.cells.Goals as goal

pub returns : goal.returns
returns c = cells_are_true
