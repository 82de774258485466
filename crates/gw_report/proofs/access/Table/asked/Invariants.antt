use Rattle.std.proofs.Common.{◌≡◌, take}
use Rattle.std.specs.List.{filter}
use Rattle.gw_report.specs.Access.{is_asked}
use Rattle.gw_report.proofs.access.Table.asked.Given as goal

abbrev pub invariant-loop-shape : goal.invariant-loop-shape
invariant-loop-shape l = l.made.items ≡ filter (is_asked l.self.own.now l.whence l.operation) (take l.shape-index l.self.shapes.now)
