use Rattle.gw_watchers.proofs.TrialLemmas.{all_are_asked, differences_are_said, trial_is_denials, trial_is_differences}
use Rattle.gw_watchers.proofs.laws.at_each_event.Goals as goal

pub returns-clause-trial : goal.returns-clause-trial
returns-clause-trial c = trial_is_denials

pub returns-clause-differences : goal.returns-clause-differences
returns-clause-differences c = trial_is_differences

pub returns-clause-said : goal.returns-clause-said
returns-clause-said c = differences_are_said

pub returns-clause-all : goal.returns-clause-all
returns-clause-all c = all_are_asked
