use Rattle.std.proofs.Common.{◌≡◌, ◌≤◌, ℕ, true, take}
use Rattle.std.specs.List.{list_any}
use Rattle.gw_rules.specs.Range.{holds}
use Rattle.gw_ask_sets.proofs.regions.meeting.last_of.Given as goal

abbrev pub invariant-loop-range : goal.invariant-loop-range
invariant-loop-range l = record {
  least : l.given ≤ l.last;
  all : (number : ℕ) → list_any (holds number) (take l.range-index l.ranges) ≡ true → number ≤ l.last;
}
