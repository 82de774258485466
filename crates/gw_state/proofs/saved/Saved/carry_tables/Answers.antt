use Rattle.std.proofs.Common.{ap}
use Rattle.std.proofs.lemmas.Result.{IfOk-weaker}
use Rattle.gw_state.proofs.Carrying.{have_seen}
use Rattle.gw_state.specs.declared.counts.SavedCounts.{SavedCounts}
use Rattle.gw_state.proofs.saved.Saved.carry_tables.Goals as goal

pub returns-clause-ticks : goal.returns-clause-ticks
returns-clause-ticks c =
    IfOk-weaker c.tables_of.result _ _
    (λ tables is.
    have_seen c.args.self.now.counts.since c.counts.result.since c.args.ports.now c.ports.result.now tables.items is
    (ap (λ (counts : SavedCounts). counts.since) c.counts.ensures.counts))
    c.tables_of.ensures
