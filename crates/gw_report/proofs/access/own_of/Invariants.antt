use Rattle.std.proofs.Common.{◌≡◌, take}
use Rattle.gw_report.specs.Report.{own_from}
use Rattle.gw_report.proofs.access.own_of.Given as goal

abbrev pub invariant-loop-place : goal.invariant-loop-place
invariant-loop-place l = l.own.items ≡ own_from 1 (take l.place l.ports)
