use Rattle.std.proofs.Common.{◌≡◌, ◌++◌, take}
use Rattle.std.specs.List.{flat_map}
use Rattle.gw_policy_text.specs.faults.Keys.{one_more}
use Rattle.gw_policy_text.proofs.faults.keys.put_others.Given as goal

abbrev pub invariant-loop-other : goal.invariant-loop-other
invariant-loop-other l = l.line.items ≡ l.fn.line.items ++ flat_map one_more (take l.other-index l.others)
