use Rattle.gw_core_laws.proofs.QuietRuleLemmas.{no_quiet_is_as_before, no_quiet_runs_as_before, quiet_rules_log_less, quiet_rules_run_log_less}
use Rattle.gw_core_laws.proofs.laws.quiet.Goals as goal

pub returns-clause-before : goal.returns-clause-before
returns-clause-before c = no_quiet_is_as_before

pub returns-clause-runs_before : goal.returns-clause-runs_before
returns-clause-runs_before c = no_quiet_runs_as_before

pub returns-clause-events : goal.returns-clause-events
returns-clause-events c = quiet_rules_log_less

pub returns-clause-runs : goal.returns-clause-runs
returns-clause-runs c = quiet_rules_run_log_less
