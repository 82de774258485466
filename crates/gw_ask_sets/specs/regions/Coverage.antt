-- Whether the ranges of a rule admit some values of a region, or all of them.
use Rattle.std.specs.Prelude.{Bool, not, ◌&&◌, ◌||◌, ◌==◌, nat_le, List, length}
use Rattle.std.specs.List.{list_all, list_any}
use Rattle.gw_rules.specs.declared.range.Range.{Range}
use Rattle.gw_ask_sets.specs.declared.regions.values.Values.{Values}

-- neither range ends below the other one
abbrev pub overlap : Range → Range → Bool
overlap a b = nat_le a.low b.high && nat_le b.low a.high

abbrev pub overlaps : List Range → List Range → Bool
overlaps values ranges = list_any (λ range. list_any (overlap range) ranges) values

-- the ranges may admit some of the values
abbrev pub meets : Values → List Range → Bool
meets values ranges = (length ranges == 0) || overlaps values.ranges ranges

-- a range lies in another one
abbrev pub is_within : Range → Range → Bool
is_within range other = nat_le other.low range.low && nat_le range.high other.high

abbrev pub holds_all : List Range → List Range → Bool
holds_all values ranges = list_all (λ range. list_any (is_within range) ranges) values

-- the ranges admit all the values
abbrev pub covers : Values → List Range → Bool
covers values ranges = (length ranges == 0) || (not values.absent && holds_all values.ranges ranges)
