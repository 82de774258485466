use Rattle.std.proofs.Common.{◌≡◌, ◌≤◌, ◌<◌, ◌+◌, ◌==◌, ℕ, true, take, Some}
use Rattle.std.specs.List.{list_any}
use Rattle.gw_rules.specs.declared.range.Range.{Range}
use Rattle.gw_ask_sets.specs.regions.internal.Crowding.{miss_count}
use Rattle.gw_ask_sets.proofs.regions.crowding.Column.most_behind.Given as goal

abbrev pub invariant-loop-one : goal.invariant-loop-one
invariant-loop-one l = record {
  least : l.given ≤ l.most;
  ends : (k : ℕ) → list_any (λ (r : Range). r.high == k) (take l.one-index l.ends) ≡ true → (l.range.low ≤ k) × (k < l.range.high)
      → miss_count l.self.rules.now l.self.places.now l.self.field (Some (k + 1)) ≤ l.most;
}
