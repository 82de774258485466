use Rattle.std.proofs.Common.{◌≡◌, ◌≤◌, ℕ, true, take, Some}
use Rattle.std.specs.List.{list_any}
use Rattle.gw_rules.specs.Fields.{value_of}
use Rattle.gw_ask_sets.specs.regions.Values.{has}
use Rattle.gw_ask_sets.proofs.regions.meeting.last_for.Given as goal

abbrev pub invariant-loop-shape : goal.invariant-loop-shape
invariant-loop-shape l = record {
  least : l.given ≤ l.last;
  all : (number : ℕ) → list_any (λ shape. has (value_of l.field shape) (Some number)) (take l.shape-index l.shapes) ≡ true → number ≤ l.last;
}
