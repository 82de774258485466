use Rattle.std.proofs.Common.{◌≡◌, ◌≤◌, ◌++◌, length, take}
use Rattle.std.specs.List.{filter, flat_map}
use Rattle.gw_policy_review.specs.comparison.Groups.{is_like}
use Rattle.gw_policy_review.specs.comparison.Lines.{line_text}
use Rattle.gw_policy_review.proofs.comparison.groups.put_group_lines.Given as goal

abbrev pub invariant-loop-each : goal.invariant-loop-each
invariant-loop-each l =
    (l.count ≡ length (filter (is_like l.first) (take l.each-index l.listing.found.now)))
    × (l.count ≤ l.each-index)
    × (l.out.items ≡ l.fn.out.items ++ flat_map (line_text l.listing.old.now l.listing.new.now)
    (take l.listing.most (filter (is_like l.first) (take l.each-index l.listing.found.now))))
