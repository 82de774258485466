use Rattle.std.proofs.Common.{◌++◌, length}
use Rattle.gw_ask_sets.specs.regions.Merging.{AreKept}
use Rattle.gw_ask_sets.proofs.regions.merging.merge.Given as goal

abbrev pub invariant-loop-next : goal.invariant-loop-next
invariant-loop-next l = AreKept l.fn.found.items (l.rest.items ++ l.done.items)

-- each turn takes one up
abbrev pub decreases-loop-next : goal.decreases-loop-next
decreases-loop-next l = length l.rest.items
