use Rattle.std.proofs.Common.{◌≡◌, ◌++◌, [], take}
use Rattle.std.specs.Prelude.{find, is_some, if◌then◌else◌}
use Rattle.std.specs.List.{flat_map}
use Rattle.gw_policy_review.proofs.comparison.listing.put_losses.Given as goal

abbrev pub invariant-loop-thing : goal.invariant-loop-thing
invariant-loop-thing g l =
    let thing = g.T.Thing in
    l.out.items
    ≡ l.fn.out.items ++ flat_map (λ x. if is_some (find (thing.is_for x) l.now) then [] else thing.gone l.head x) (take l.thing-index l.was)
