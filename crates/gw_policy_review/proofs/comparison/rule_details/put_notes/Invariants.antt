use Rattle.std.proofs.Common.{◌≡◌, ◌++◌, take}
use Rattle.gw_policy_review.specs.comparison.Details.{note_line}
use Rattle.gw_script.specs.Order.{in_order}
use Rattle.gw_policy_review.proofs.comparison.rule_details.put_notes.Given as goal

abbrev pub invariant-loop-place : goal.invariant-loop-place
invariant-loop-place l = l.out.items ≡ l.fn.out.items ++ in_order (note_line l.old l.rules) 1 (take l.place l.notes)
