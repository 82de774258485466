use Rattle.std.proofs.Common.{◌≡◌, take}
use Rattle.gw_policy_drafts.specs.beginning.Flaws.{of_number}
use Rattle.gw_policy_drafts.proofs.beginning.ports.of_number.Given as goal

abbrev pub invariant-loop-part : goal.invariant-loop-part
invariant-loop-part l = l.some.items ≡ of_number l.number (take l.part-index l.parts)
