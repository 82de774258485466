use Rattle.std.proofs.Common.{List, Option, ℕ, None, slice_index_or, subst, sym, take}
use Rattle.gw_core.specs.Deciders.{decided_along, decided_in}
use Rattle.gw_core.specs.declared.streak.Streak.{Streak}
use Rattle.gw_decisions.specs.Counted.{AreCountedBy}
use Rattle.gw_decisions.proofs.CountedLemmas.{counted_then, decided_next}
use Rattle.gw_decisions.proofs.counted.count_streaks.Goals as goal

pub loop-streak-preserved : goal.loop-streak-preserved
loop-streak-preserved c =
    let streaks = c.args.streaks.now in
    let i = c.loop-streak.streak-index in
    let none : Streak = record { by = None; count = 0 } in
    subst (λ (l : List (Option ℕ)). AreCountedBy c.args.tally.now l c.count_streak.new.tally)
    (sym (decided_next streaks i none c.loop-streak-test.true))
    (counted_then c.args.tally.now c.loop-streak.tally c.count_streak.new.tally (decided_along (take i streaks))
    (decided_in (slice_index_or streaks i none)) c.loop-streak.invariant c.count_streak.ensures)
