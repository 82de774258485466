use Rattle.std.proofs.Common.{◌≡◌, ◌++◌, take}
use Rattle.gw_policy_review.specs.permissions.Allowances.{exception_text}
use Rattle.gw_script.specs.Order.{in_order}
use Rattle.gw_policy_review.proofs.permissions.allowances.Found.put_exceptions.Given as goal

abbrev pub invariant-loop-place : goal.invariant-loop-place
invariant-loop-place l =
    l.out.items ≡ l.fn.out.items ++ in_order (exception_text l.self.placed.now.config.now l.self.placed.now.lines.now l.self.findings.now l.rule)
    1 (take l.place l.rules)
