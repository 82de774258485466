use Rattle.std.proofs.Common.{◌≡◌, ◌++◌, take}
use Rattle.std.specs.List.{flat_map}
use Rattle.gw_policy_drafts.specs.suggestion.Text.{left_text}
use Rattle.gw_policy_drafts.proofs.suggestion.text.put_each_left.Given as goal

abbrev pub invariant-loop-one : goal.invariant-loop-one
invariant-loop-one l = l.out.items ≡ l.fn.out.items ++ flat_map (left_text l.assertions l.asks) (take l.one-index l.fn.left)
