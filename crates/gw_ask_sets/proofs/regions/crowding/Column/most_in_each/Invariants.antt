use Rattle.std.proofs.Common.{◌≡◌, ◌≤◌, ℕ, true, take, Some}
use Rattle.std.specs.List.{list_any}
use Rattle.gw_rules.specs.Range.{holds}
use Rattle.gw_ask_sets.specs.regions.internal.Crowding.{miss_count}
use Rattle.gw_ask_sets.proofs.regions.crowding.Column.most_in_each.Given as goal

abbrev pub invariant-loop-range : goal.invariant-loop-range
invariant-loop-range l = record {
  least : l.given ≤ l.most;
  numbers : (n : ℕ) → list_any (holds n) (take l.range-index l.ranges) ≡ true
      → miss_count l.self.rules.now l.self.places.now l.self.field (Some n) ≤ l.most;
}
