use Rattle.gw_core_laws.proofs.LogLemmas.{relay_ticks_are_counted, ticks_are_counted, denials_are_counted, log_is_numbered}
use Rattle.gw_core_laws.proofs.laws.counts.Goals as goal

pub returns-clause-ticks : goal.returns-clause-ticks
returns-clause-ticks c = ticks_are_counted

pub returns-clause-denials : goal.returns-clause-denials
returns-clause-denials c = denials_are_counted

pub returns-clause-log : goal.returns-clause-log
returns-clause-log c = log_is_numbered

pub returns-clause-relay : goal.returns-clause-relay
returns-clause-relay c = relay_ticks_are_counted
