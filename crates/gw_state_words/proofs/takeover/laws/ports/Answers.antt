use Rattle.gw_state.specs.declared.port.SavedPort.{SavedPort}
use Rattle.gw_state_words.proofs.takeover_lemmas.Firsts.{firsts_are_found}
use Rattle.gw_state_words.proofs.takeover_lemmas.PortLaws.{devices_are_counted, lost_ports_are_lost, ports_are_as_said}
use Rattle.gw_state_words.proofs.takeover.laws.ports.Goals as goal

pub returns-clause-as_said : goal.returns-clause-as_said
returns-clause-as_said c = ports_are_as_said

pub returns-clause-lost : goal.returns-clause-lost
returns-clause-lost c = lost_ports_are_lost

pub returns-clause-found : goal.returns-clause-found
returns-clause-found c = firsts_are_found SavedPort

pub returns-clause-devices : goal.returns-clause-devices
returns-clause-devices c = devices_are_counted
