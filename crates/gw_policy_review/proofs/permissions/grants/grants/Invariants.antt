use Rattle.std.proofs.Common.{◌≡◌, take}
use Rattle.gw_policy_review.specs.permissions.Permissions.{grant_line}
use Rattle.gw_script.specs.Order.{in_order}
use Rattle.gw_policy_review.proofs.permissions.grants.grants.Given as goal

abbrev pub invariant-loop-place : goal.invariant-loop-place
invariant-loop-place l =
    l.text.items ≡ in_order (grant_line l.inquiry.placed.config.now l.inquiry.placed.lines.now l.inquiry.deed l.inquiry.shape l.findings) 1
    (take l.place l.rules)
