use Rattle.gw_verdicts.proofs.asks_lemmas.LawLemmas.{each_is_ask, given_again, plain_stays}
use Rattle.gw_verdicts.proofs.asks.laws.asks.Goals as goal

pub returns-clause-each : goal.returns-clause-each
returns-clause-each c = each_is_ask

pub returns-clause-plain : goal.returns-clause-plain
returns-clause-plain c = plain_stays

pub returns-clause-again : goal.returns-clause-again
returns-clause-again c = given_again
