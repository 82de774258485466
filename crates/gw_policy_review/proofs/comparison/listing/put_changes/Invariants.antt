use Rattle.std.proofs.Common.{◌≡◌, ◌++◌, take}
use Rattle.std.specs.Prelude.{find}
use Rattle.std.specs.List.{flat_map}
use Rattle.gw_policy_review.proofs.comparison.listing.put_changes.Given as goal

abbrev pub invariant-loop-thing : goal.invariant-loop-thing
invariant-loop-thing g l =
    let thing = g.T.Thing in
    l.out.items ≡ l.fn.out.items ++ flat_map (λ x. thing.change l.head x (find (thing.is_for x) l.was)) (take l.thing-index l.now)
