use Rattle.std.proofs.Common.{◌≡◌, ◌++◌, drop, take}
use Rattle.std.specs.List.{flat_map}
use Rattle.gw_policy_review.specs.comparison.Groups.{firsts, firsts_after, group_head}
use Rattle.gw_policy_review.proofs.comparison.groups.put_heads.Given as goal

abbrev pub invariant-loop-place : goal.invariant-loop-place
invariant-loop-place l =
    l.out.items ++ flat_map (group_head l.listing.old.now l.listing.new.now l.listing.found.now)
    (firsts_after (take l.place l.listing.found.now) (drop l.place l.listing.found.now))
    ≡ l.fn.out.items ++ flat_map (group_head l.listing.old.now l.listing.new.now l.listing.found.now)
    (firsts l.listing.found.now)
