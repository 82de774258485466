use Rattle.std.proofs.Common.{subst, ℕ}
use Rattle.gw_decisions.specs.tally.Tally.{CountsMore}
use Rattle.gw_decisions.proofs.CountedLemmas.{streak_counted}
use Rattle.gw_decisions.proofs.counted.count_streak.Goals as goal

pub returns : goal.returns
returns c =
    streak_counted c.args.streak.by c.args.streak.count c.args.tally.now c.count_decided.new.self
    (subst (λ (place : ℕ). CountsMore place c.args.streak.count c.args.tally.now c.count_decided.new.self) c.place_by.ensures c.count_decided.ensures)
