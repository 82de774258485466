use Rattle.std.proofs.Common.{◌≡◌, take}
use Rattle.std.specs.List.{flat_map}
use Rattle.gw_json.specs.Comparison.{range_values}
use Rattle.gw_json.specs.internal.View.{values_view}
use Rattle.gw_json.proofs.comparison.ranges_value.Given as goal

abbrev pub invariant-loop-range : goal.invariant-loop-range
invariant-loop-range l = values_view l.shown.items ≡ flat_map (range_values l.fn.field) (take l.range-index l.fn.ranges)
