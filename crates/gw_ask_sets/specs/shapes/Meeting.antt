-- Whether a rule matches an ask of a shape.
use Rattle.std.specs.Prelude.{Bool, nat_le, ◌&&◌, ◌||◌, ◌==◌, List, length, if◌then◌else◌}
use Rattle.std.specs.List.{list_any}
use Rattle.gw_rules.specs.declared.range.Range.{Range}
use Rattle.gw_rules.specs.declared.rule.Rule.{Rule}
use Rattle.gw_rules.specs.Fields.{value_of}
use Rattle.gw_rules.specs.Rule.{each_field, ranges_of}
use Rattle.gw_ask_sets.specs.shapes.Shape.{Shape}
use Rattle.gw_ask_sets.specs.declared.shapes.side.Side.{Side}

-- neither range ends below the other one
abbrev pub overlaps : Range → Range → Bool
overlaps a b = nat_le a.low b.high && nat_le b.low a.high

-- the field may be a number
abbrev pub has_number : Side → Bool
has_number side = nat_le side.range.low side.range.high

-- the field may be so that these ranges of a rule admit it
abbrev pub meets_side : Side → List Range → Bool
meets_side side ranges =
    if length ranges == 0 then side.absent || has_number side
    else has_number side && list_any (overlaps side.range) ranges

-- each of them may
abbrev pub meets : Shape → Rule → Bool
meets shape rule = each_field (λ field. meets_side (value_of field shape) (ranges_of field rule))
