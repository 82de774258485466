use Rattle.std.proofs.Common.{◌≡◌, ◌++◌, take}
use Rattle.gw_script.specs.Order.{in_order}
use Rattle.gw_report.specs.Report.{assertion_row}
use Rattle.gw_report.proofs.assertions.put_rows.Given as goal

abbrev pub invariant-loop-place : goal.invariant-loop-place
invariant-loop-place l = l.page ≡ l.fn.page ++ in_order (assertion_row l.rules l.judged) 1 (take l.place l.assertions)
