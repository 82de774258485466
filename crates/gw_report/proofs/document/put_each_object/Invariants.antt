use Rattle.std.proofs.Common.{◌≡◌, ◌++◌, take}
use Rattle.std.specs.List.{flat_map}
use Rattle.gw_report.specs.Report.{object_row}
use Rattle.gw_report.proofs.document.put_each_object.Given as goal

abbrev pub invariant-loop-object : goal.invariant-loop-object
invariant-loop-object l = l.page ≡ l.fn.page ++ flat_map (object_row) (take l.object-index l.fn.objects)
