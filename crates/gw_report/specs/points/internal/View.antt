-- What a private contract sees of the values of a line.
use Rattle.gw_report.specs.points.Points.{PointLine}
use Rattle.gw_report.specs.declared.points.points.PointLine.{PointLine as Lent}

abbrev pub point_view : Lent → PointLine
point_view p = record {
  device = p.device;
  kind = p.kind;
  instance = p.instance;
  name = p.name.now;
  description = p.description.now;
  default = p.default.now;
  settable = p.settable;
  units = p.units.now;
}
