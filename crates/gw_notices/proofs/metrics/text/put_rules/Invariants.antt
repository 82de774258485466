use Rattle.std.proofs.Common.{◌≡◌, ◌++◌, take}
use Rattle.gw_script.specs.Order.{in_order}
use Rattle.gw_notices.specs.metrics.Text.{rule_line}
use Rattle.gw_notices.proofs.metrics.text.put_rules.Given as goal

abbrev pub invariant-loop-place : goal.invariant-loop-place
invariant-loop-place l = l.out.items ≡ l.fn.out.items ++ in_order (rule_line l.counts) 1 (take l.place l.rules)
