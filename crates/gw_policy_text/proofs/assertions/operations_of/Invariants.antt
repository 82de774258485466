use Rattle.std.proofs.Common.{◌≡◌, filter, take}
use Rattle.gw_policy_text.specs.Policy.{is_operation}
use Rattle.gw_policy_text.proofs.assertions.operations_of.Given as goal

abbrev pub invariant-loop-item : goal.invariant-loop-item
invariant-loop-item l = l.operations ≡ filter is_operation (take l.item-index l.items)
