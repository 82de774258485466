use Rattle.std.proofs.Common.{◌≡◌, drop}
use Rattle.gw_notices.specs.rule_changes.Changes.{rules_after}
use Rattle.gw_notices.proofs.rule_changes.changes.rules_after.Given as goal

abbrev pub invariant-loop-place : goal.invariant-loop-place
invariant-loop-place l = rules_after l.rule (drop l.place l.rules) ≡ rules_after l.rule l.rules
