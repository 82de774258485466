use Rattle.gw_policy_review.specs.permissions.Permissions.{IsPort}
use Rattle.gw_policy_review.proofs.permissions_lemmas.InTurn.{Turned}
use Rattle.gw_policy_review.proofs.permissions.ports.put_ports.Given as goal

abbrev pub invariant-loop-place : goal.invariant-loop-place
invariant-loop-place l =
    Turned (IsPort l.placed.config.now l.placed.lines.now) l.placed.config.now.ports l.place l.fn.left l.rest l.fn.out.items l.out.items
