use Rattle.gw_verdicts.proofs.UnraisedLaw.{asks_are_judged, empty_means_none, holding_is_true}
use Rattle.gw_verdicts.proofs.laws.assertions.Goals as goal

pub returns-clause-judged : goal.returns-clause-judged
returns-clause-judged c = asks_are_judged

pub returns-clause-holding : goal.returns-clause-holding
returns-clause-holding c = holding_is_true

pub returns-clause-empty : goal.returns-clause-empty
returns-clause-empty c = empty_means_none
