use Rattle.std.proofs.Common.{◌≡◌, ◌++◌, take}
use Rattle.gw_script.specs.Order.{in_order}
use Rattle.gw_policy_drafts.specs.Listing.{rule_table}
use Rattle.gw_policy_drafts.proofs.listing.put_tables.Given as goal

abbrev pub invariant-loop-place : goal.invariant-loop-place
invariant-loop-place l = l.out.items ≡ l.fn.out.items ++ in_order (rule_table l.origins.tables.now l.origins.lines.now l.origins.notes.now l.origins.audits.now) 1 (take l.place l.rules)
