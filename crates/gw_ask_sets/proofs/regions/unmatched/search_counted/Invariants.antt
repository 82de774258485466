use Rattle.gw_ask_sets.specs.regions.Unmatched.{AreNarrowed}
use Rattle.gw_ask_sets.proofs.regions.unmatched.search_counted.Given as goal

abbrev pub invariant-loop-used : goal.invariant-loop-used
invariant-loop-used l = AreNarrowed l.rules l.used l.fn.regions.items l.left.items
