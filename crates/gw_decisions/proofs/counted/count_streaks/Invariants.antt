use Rattle.std.proofs.Common.{take}
use Rattle.gw_core.specs.Deciders.{decided_along}
use Rattle.gw_decisions.specs.Counted.{AreCountedBy}
use Rattle.gw_decisions.proofs.counted.count_streaks.Given as goal

abbrev pub invariant-loop-streak : goal.invariant-loop-streak
invariant-loop-streak l = AreCountedBy l.fn.tally (decided_along (take l.streak-index l.streaks)) l.tally
