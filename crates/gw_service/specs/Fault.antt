-- Why serving doesn't begin, or ends, by the faults of what it needs.
use Rattle.gw_turns.specs.declared.serving.ServeFault.{ServeFault}
use Rattle.gw_turns.specs.declared.serving.ServeFault.TheVariants as serving
use Rattle.gw_system.specs.declared.opening.LogFailure.{LogFailure}
use Rattle.gw_system.specs.declared.opening.LogFailure.TheVariants as log_failure
use Rattle.gw_system.specs.declared.opening.OpenFailure.{OpenFailure}
use Rattle.gw_system.specs.declared.opening.OpenFailure.TheVariants as opening
use Rattle.gw_system.specs.declared.opening.SocketFailure.{SocketFailure}
use Rattle.gw_system.specs.declared.opening.SocketFailure.TheVariants as socket_failure
use Rattle.gw_service.specs.declared.fault.ServiceFault.{ServiceFault}
use Rattle.gw_service.specs.declared.fault.ServiceFault.TheVariants as fault

-- the fault of serving
abbrev pub fault_of_serving : ServeFault → ServiceFault
fault_of_serving serving.Log = fault.Log
fault_of_serving serving.Memory = fault.Memory
fault_of_serving serving.CountEnd = fault.CountEnd

-- the fault if the log can't be opened
abbrev pub fault_of_log : LogFailure → ServiceFault
fault_of_log log_failure.Memory = fault.Memory
fault_of_log log_failure.Failed = fault.Log

-- the fault if sockets can't be opened
abbrev pub fault_of_sockets : SocketFailure → ServiceFault
fault_of_sockets socket_failure.Memory = fault.Memory
fault_of_sockets (socket_failure.Failed failed) = fault.Socket failed.port

-- the fault if not all can be opened
abbrev pub fault_of_opening : OpenFailure → ServiceFault
fault_of_opening (opening.Log failure) = fault_of_log failure
fault_of_opening (opening.Sockets failure) = fault_of_sockets failure
