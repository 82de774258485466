use Rattle.std.proofs.Common.{◌≡◌, drop}
use Rattle.gw_ask_sets.specs.regions.Tidying.{put_all}
use Rattle.gw_ask_sets.proofs.regions.ranges.with_all.Given as goal

abbrev pub invariant-loop-range : goal.invariant-loop-range
invariant-loop-range l = put_all l.all (drop l.range-index l.more) ≡ put_all l.fn.list l.more
