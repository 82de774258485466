use Rattle.gw_report.proofs.points_lemmas.Found.{columns_are, names_are, rows_are}
use Rattle.gw_report.proofs.points.laws.reading.Goals as goal

pub returns-clause-rows : goal.returns-clause-rows
returns-clause-rows c = rows_are

pub returns-clause-columns : goal.returns-clause-columns
returns-clause-columns c = columns_are

pub returns-clause-names : goal.returns-clause-names
returns-clause-names c = names_are
