use Rattle.std.proofs.Common.{◌≡◌, ◌++◌, take}
use Rattle.std.specs.List.{flat_map}
use Rattle.gw_report.specs.points.Cells.{row_text}
use Rattle.gw_report.specs.points.Points.{object_point, point_row}
use Rattle.gw_report.proofs.points.points.put_objects.Given as goal

abbrev pub invariant-loop-object : goal.invariant-loop-object
invariant-loop-object l =
    l.out.items ≡ l.fn.out.items ++ flat_map (λ object. row_text (point_row (object_point l.device object))) (take l.object-index l.fn.objects)
