-- What a reader of separated values finds (RFC 4180), by the machine of the kit's crate `csv`: cells are separated by
-- semicolons, and one between quotes may have every octet.
use Rattle.std.specs.Prelude.{ℕ, List}
use Rattle.csv.specs.Reading.{default_config, records}
use Rattle.csv.specs.declared.parser.Config.{Config}
use Rattle.gw_report.specs.points.Cells.{Row}

abbrev pub semicolons : Config
semicolons = record default_config { delimiter = 59 }

-- all lines of a text
abbrev pub rows_in : List ℕ → List Row
rows_in text = records semicolons text
