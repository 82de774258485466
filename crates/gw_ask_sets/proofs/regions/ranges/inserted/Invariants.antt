use Rattle.std.proofs.Common.{◌≡◌, ◌++◌, drop}
use Rattle.gw_ask_sets.specs.regions.Tidying.{put_into}
use Rattle.gw_ask_sets.proofs.regions.ranges.inserted.Given as goal

abbrev pub invariant-loop-next : goal.invariant-loop-next
invariant-loop-next l = l.out ++ put_into (drop l.next-index l.list) l.carried ≡ put_into l.list l.fn.range
