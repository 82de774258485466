use Rattle.gw_state_laws.proofs.keeping_lemmas.Runs.{first_is_current, kept_is_ahead, kept_is_up_to_date, kept_is_young, runs_keep_current, runs_keep_recent}
use Rattle.gw_state_laws.proofs.keeping.laws.over_a_run.Goals as goal

pub returns-clause-first : goal.returns-clause-first
returns-clause-first g c = first_is_current g.S.Store.held

pub returns-clause-runs : goal.returns-clause-runs
returns-clause-runs g c = runs_keep_current g.S.Store.held g.L.OctetSink.held

pub returns-clause-current : goal.returns-clause-current
returns-clause-current g c = kept_is_up_to_date g.S.Store.held

pub returns-clause-recent : goal.returns-clause-recent
returns-clause-recent g c = runs_keep_recent g.S.Store.held g.L.OctetSink.held

pub returns-clause-young : goal.returns-clause-young
returns-clause-young g c = kept_is_young g.S.Store.held

pub returns-clause-ahead : goal.returns-clause-ahead
returns-clause-ahead g c = kept_is_ahead g.S.Store.held
