use Rattle.gw_log_words.proofs.LastLemmas.{finds_last, hides_nothing}
use Rattle.gw_log_words.proofs.laws.last_denial.Goals as goal

pub returns-clause-finds : goal.returns-clause-finds
returns-clause-finds c = finds_last

pub returns-clause-front : goal.returns-clause-front
returns-clause-front c = hides_nothing
