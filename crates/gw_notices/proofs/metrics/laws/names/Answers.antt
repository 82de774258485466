use Rattle.gw_notices.proofs.metrics_lemmas.Names.{counters_are_totals, names_differ}
use Rattle.gw_notices.proofs.metrics.laws.names.Goals as goal

pub returns-clause-differ : goal.returns-clause-differ
returns-clause-differ c = names_differ

pub returns-clause-totals : goal.returns-clause-totals
returns-clause-totals c = counters_are_totals
