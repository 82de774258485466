use Rattle.std.proofs.Common.{◌≡◌, ◌++◌, take}
use Rattle.std.specs.List.{flat_map}
use Rattle.gw_policy_drafts.specs.migration.Items.{quoted_octet}
use Rattle.gw_policy_drafts.proofs.migration.lines.put_each.Given as goal

abbrev pub invariant-loop-octet : goal.invariant-loop-octet
invariant-loop-octet l = l.out.items ≡ l.fn.out.items ++ flat_map quoted_octet (take l.octet-index l.fn.octets)
