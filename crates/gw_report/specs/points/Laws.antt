-- What a reader finds in the list.
use Rattle.std.specs.Prelude.{◌≡◌, length, Some, slice_get}
use Rattle.std.specs.Option.{option_map}
use Rattle.gw_configuration.specs.Configuration.{Configuration}
use Rattle.gw_report.specs.points.Cells.{unguarded}
use Rattle.gw_report.specs.points.Points.{PointLine, column_row, point_row, points_rows, points_text}
use Rattle.gw_report.specs.points.Reading.{rows_in}

-- exactly the rows, whatever the texts of the configuration are
abbrev pub RowsAreFound : Type 0
RowsAreFound = (c : Configuration) → rows_in (points_text c) ≡ points_rows c

-- a cell for each column
abbrev pub ColumnsAreSixteen : Type 0
ColumnsAreSixteen = (length column_row ≡ 16) × ((point : PointLine) → length (point_row point) ≡ 16)

-- the third is the name, but for the apostrophe
abbrev pub NamesAreFound : Type 0
NamesAreFound = (point : PointLine) → option_map unguarded (slice_get (point_row point) 2) ≡ Some point.name
