use Rattle.gw_tools.proofs.AssertingLemmas.{Tells}
use Rattle.gw_tools.proofs.asserting.put_fates.Given as goal

abbrev pub invariant-loop-place : goal.invariant-loop-place
invariant-loop-place l = Tells l.old l.new l.place l.fn.out.items l.out.items
