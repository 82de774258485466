use Rattle.std.proofs.Common.{◌∙◌, List, Option, ℕ, subst, sym}
use Rattle.gw_core.specs.Deciders.{decided_along, decided_in}
use Rattle.gw_decisions.specs.Counted.{AreCountedBy}
use Rattle.gw_decisions.proofs.CountedLemmas.{asks_counted, counted_then}
use Rattle.gw_decisions.proofs.counted.count_asked.Goals as goal

pub returns : goal.returns
returns c = λ all are.
    asks_counted c.args.tally.now c.count_streak.new.tally c.deciders.result.now all (c.deciders.ensures ∙ are)
    (subst (λ (l : List (Option ℕ)). AreCountedBy c.args.tally.now l c.count_streak.new.tally) (sym c.streaks.ensures)
    (counted_then c.args.tally.now c.count_streaks.new.tally c.count_streak.new.tally
    (decided_along c.streaks.result.0.now) (decided_in c.streaks.result.1) c.count_streaks.ensures c.count_streak.ensures))
