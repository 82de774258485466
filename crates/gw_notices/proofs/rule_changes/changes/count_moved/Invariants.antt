use Rattle.std.proofs.Common.{◌≡◌, ◌+◌, ◌≤◌, drop}
use Rattle.gw_notices.specs.rule_changes.Changes.{count_moved}
use Rattle.gw_notices.proofs.rule_changes.changes.count_moved.Given as goal

abbrev pub invariant-loop-place : goal.invariant-loop-place
invariant-loop-place l =
    (l.count ≤ l.place) × (l.count + count_moved l.old l.rest (drop l.place l.new) ≡ count_moved l.old l.old l.new)
