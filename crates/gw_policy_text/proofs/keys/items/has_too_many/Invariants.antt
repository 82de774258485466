use Rattle.std.proofs.Common.{◌≡◌, ◌+◌, map, sum_by, take}
use Rattle.toml.specs.View.{view}
use Rattle.gw_policy_text.specs.keys.Items.{count_of}
use Rattle.gw_policy_text.proofs.keys.items.has_too_many.Given as goal

abbrev pub invariant-loop-item : goal.invariant-loop-item
invariant-loop-item l = l.left + sum_by (λ item. count_of (map view l.sets) (view item)) (take l.item-index l.items) ≡ 256
