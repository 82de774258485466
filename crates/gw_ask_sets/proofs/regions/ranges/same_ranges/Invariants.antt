use Rattle.std.proofs.Common.{◌≡◌, ◌<◌, ℕ, get_or}
use Rattle.gw_rules.specs.declared.range.Range.{Range}
use Rattle.gw_ask_sets.proofs.regions.ranges.same_ranges.Given as goal

abbrev pub invariant-loop-place : goal.invariant-loop-place
invariant-loop-place l = (k : ℕ) (d : Range) → k < l.place → get_or l.a k d ≡ get_or l.b k d
