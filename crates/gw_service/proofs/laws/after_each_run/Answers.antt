use Rattle.gw_service.proofs.RunLemmas.{audit_is_whole, counts_are_whole, trial_is_whole}
use Rattle.gw_service.proofs.laws.after_each_run.Goals as goal

pub returns-clause-trial : goal.returns-clause-trial
returns-clause-trial g c = trial_is_whole g.T.OctetSink.held g.A.OctetSink.held

pub returns-clause-audit : goal.returns-clause-audit
returns-clause-audit g c = audit_is_whole g.T.OctetSink.held g.A.OctetSink.held

pub returns-clause-counts : goal.returns-clause-counts
returns-clause-counts g c = counts_are_whole g.T.OctetSink.held g.A.OctetSink.held
