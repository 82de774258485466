use Rattle.std.proofs.Common.{take}
use Rattle.gw_script.specs.Order.{in_order}
use Rattle.gw_policy_review.specs.warnings.Warnings.{set_lines}
use Rattle.gw_addr.proofs.Appended.{IsGrown}
use Rattle.gw_policy_review.proofs.warnings.set_warnings.put_sets.Given as goal

abbrev pub invariant-loop-index : goal.invariant-loop-index
invariant-loop-index l = IsGrown (in_order (set_lines) 0 (take l.index l.sets)) l.fn.out l.out
