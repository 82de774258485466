use Rattle.std.proofs.Common.{◌≡◌, ◌++◌, take}
use Rattle.std.specs.List.{flat_map}
use Rattle.gw_policy_drafts.specs.suggestion.Text.{next_plain_item}
use Rattle.gw_policy_drafts.proofs.suggestion.text.put_more_plain_items.Given as goal

abbrev pub invariant-loop-range : goal.invariant-loop-range
invariant-loop-range l = l.out.items ≡ l.fn.out.items ++ flat_map (next_plain_item l.field) (take l.range-index l.fn.ranges)
