use Rattle.std.proofs.Common.{◌≡◌, ◌++◌, take}
use Rattle.std.specs.List.{flat_map}
use Rattle.gw_report.specs.points.Cells.{doubled}
use Rattle.gw_report.proofs.points.cells.put_each_doubled.Given as goal

abbrev pub invariant-loop-octet : goal.invariant-loop-octet
invariant-loop-octet l = l.out.items ≡ l.fn.out.items ++ flat_map doubled (take l.octet-index l.fn.cell)
