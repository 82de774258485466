-- What a range holds, and what the ranges of a field admit.
use Rattle.std.specs.Prelude.{ℕ, Bool, false, ◌&&◌, ◌||◌, ◌==◌, nat_le, List, length, Option}
use Rattle.std.specs.List.{list_any}
use Rattle.std.specs.Option.{option_map_or}
use Rattle.gw_rules.specs.declared.range.Range.{Range}

-- a range holds the numbers from its low end to its high end, both ends too
abbrev pub holds : ℕ → Range → Bool
holds value range = nat_le range.low value && nat_le value range.high

-- the low end isn't above the high end
abbrev pub is_ordered : Range → Bool
is_ordered range = nat_le range.low range.high

-- a field is admitted if the rule has no range for it, or the ask has the field and a range holds its value
abbrev pub admits : List Range → Option ℕ → Bool
admits ranges value = (length ranges == 0) || option_map_or (λ number. list_any (holds number) ranges) value false
