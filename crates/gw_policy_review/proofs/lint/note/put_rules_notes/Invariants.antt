use Rattle.std.proofs.Common.{◌≡◌, ◌++◌, take}
use Rattle.gw_policy_review.specs.lint.Notes.{rule_notes}
use Rattle.gw_script.specs.Order.{in_order}
use Rattle.gw_policy_review.proofs.lint.note.put_rules_notes.Given as goal

abbrev pub invariant-loop-place : goal.invariant-loop-place
invariant-loop-place l = l.out.items ≡ l.fn.out.items ++ in_order (rule_notes l.unnamed l.lint.config.now l.lint.lines.now) 1 (take l.place l.rules)
