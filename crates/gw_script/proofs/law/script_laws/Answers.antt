use Rattle.gw_script.proofs.EventLemmas.{one_event, one_run, ended_lines, last_line}
use Rattle.gw_script.proofs.OneFlaw.{one_flaw}
use Rattle.gw_script.proofs.law.script_laws.Goals as goal

pub returns-clause-event : goal.returns-clause-event
returns-clause-event c = one_event

pub returns-clause-events : goal.returns-clause-events
returns-clause-events c = one_run

pub returns-clause-ended : goal.returns-clause-ended
returns-clause-ended c = ended_lines

pub returns-clause-last : goal.returns-clause-last
returns-clause-last c = last_line

pub returns-clause-flaw : goal.returns-clause-flaw
returns-clause-flaw c = one_flaw
