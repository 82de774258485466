use Rattle.gw_notices.proofs.metrics_lemmas.Reading.{only_escapes_are_read, values_are_read_back}
use Rattle.gw_notices.proofs.metrics.laws.values.Goals as goal

pub returns-clause-back : goal.returns-clause-back
returns-clause-back c = values_are_read_back

pub returns-clause-only : goal.returns-clause-only
returns-clause-only c = only_escapes_are_read
