-- Sides of numbers, and what of a side is below another one and above it.
use Rattle.std.specs.Prelude.{ℕ, ◌+◌, ◌-◌, false, nat_lt, if◌then◌else◌, Option, Some, None}
use Rattle.gw_rules.specs.declared.range.Range.{Range}
use Rattle.gw_ask_sets.specs.declared.shapes.side.Side.{Side}

-- numbers alone, any of them
abbrev pub numbers : ℕ → ℕ → Side
numbers low high = record { absent = false; range = record { low = low; high = high }; keyed = false }

-- a range that has no number
abbrev pub no_range : Range
no_range = record { low = 1; high = 0 }

-- what of a side is below another one, and above it
abbrev pub below : Side → Side → Option Side
below side cut =
    if nat_lt side.range.low cut.range.low then Some (numbers side.range.low (cut.range.low - 1)) else None

abbrev pub above : Side → Side → Option Side
above side cut =
    if nat_lt cut.range.high side.range.high then Some (numbers (cut.range.high + 1) side.range.high) else None
