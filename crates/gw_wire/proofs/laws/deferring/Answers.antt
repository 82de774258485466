use Rattle.gw_wire.proofs.DeferLemmas.{deferring_counts_on, is_done_in_time}
use Rattle.gw_wire.proofs.laws.deferring.Goals as goal

pub returns-clause-done : goal.returns-clause-done
returns-clause-done c = is_done_in_time

pub returns-clause-counts : goal.returns-clause-counts
returns-clause-counts c = deferring_counts_on
