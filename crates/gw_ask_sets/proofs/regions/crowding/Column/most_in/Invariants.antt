use Rattle.std.proofs.Common.{◌≡◌, ◌≤◌, ◌<◌, ◌+◌, ℕ, true, take, Some}
use Rattle.std.specs.List.{list_any}
use Rattle.gw_ask_sets.specs.regions.internal.Crowding.{ends_at, miss_count}
use Rattle.gw_ask_sets.proofs.regions.crowding.Column.most_in.Given as goal

abbrev pub invariant-loop-place : goal.invariant-loop-place
invariant-loop-place l = record {
  first : miss_count l.self.rules.now l.self.places.now l.self.field (Some l.range.low) ≤ l.most;
  ends : (k : ℕ) → list_any (ends_at l.self.rules.now l.self.field k) (take l.place-index l.self.places.now) ≡ true
      → (l.range.low ≤ k) × (k < l.range.high) → miss_count l.self.rules.now l.self.places.now l.self.field (Some (k + 1)) ≤ l.most;
}
