use Rattle.gw_core_laws.proofs.DecisionLemmas.{same_decisions_do_alike, same_decisions_run_alike, same_decisions_run_send_alike, same_decisions_send_alike}
use Rattle.gw_core_laws.proofs.laws.decisions.Goals as goal

pub returns-clause-events : goal.returns-clause-events
returns-clause-events c = same_decisions_do_alike

pub returns-clause-runs : goal.returns-clause-runs
returns-clause-runs c = same_decisions_run_alike

pub returns-clause-sent : goal.returns-clause-sent
returns-clause-sent c = same_decisions_send_alike

pub returns-clause-sent_runs : goal.returns-clause-sent_runs
returns-clause-sent_runs c = same_decisions_run_send_alike
