use Rattle.gw_core_laws.proofs.ExtensionLemmas.{configuration_stays, runs_extend, steps_extend}
use Rattle.gw_core.proofs.HistoryLemmas.{ports_stay}
use Rattle.gw_core_laws.proofs.StandLemmas.{acts_leave_the_tables, learnings_leave_the_routes, writes_leave_the_slots}
use Rattle.gw_core_laws.proofs.laws.histories.Goals as goal

pub returns-clause-steps : goal.returns-clause-steps
returns-clause-steps c = steps_extend

pub returns-clause-runs : goal.returns-clause-runs
returns-clause-runs c = runs_extend

pub returns-clause-tables : goal.returns-clause-tables
returns-clause-tables c = acts_leave_the_tables

pub returns-clause-routes : goal.returns-clause-routes
returns-clause-routes c = learnings_leave_the_routes

pub returns-clause-slots : goal.returns-clause-slots
returns-clause-slots c = writes_leave_the_slots

pub returns-clause-ports : goal.returns-clause-ports
returns-clause-ports c = ports_stay

pub returns-clause-configuration : goal.returns-clause-configuration
returns-clause-configuration c = configuration_stays
