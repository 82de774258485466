use Rattle.std.proofs.Common.{◌≡◌, ◌++◌, take}
use Rattle.gw_script.specs.Order.{in_order}
use Rattle.gw_report.specs.Report.{rule_row}
use Rattle.gw_report.proofs.rules.put_rows.Given as goal

abbrev pub invariant-loop-place : goal.invariant-loop-place
invariant-loop-place l =
    l.page ≡ l.fn.page ++ in_order (rule_row l.config l.lines l.times.are_shown l.times.counts.items) 1 (take l.place l.rules)
