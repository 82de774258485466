-- What `run` leaves of a configuration that was read, and how its end is reported, over the definitions of `gw_service`.
use Rattle.std.specs.Prelude.{◌≡◌, ℕ, List, [], Option, Result, Ok, Err}
use Rattle.gw_configuration.specs.declared.run_options.RunOptions.{RunOptions}
use Rattle.gw_service.specs.Edition.{IsEdition}
use Rattle.gw_service.specs.StampedRun.{LeavesTimed, TimedMachine}
use Rattle.gw_service.specs.declared.edition.Edition.{Edition}
use Rattle.gw_service.specs.declared.fault.ServiceFault.{ServiceFault}
use Rattle.gw_service.specs.declared.fault.ServiceFault.TheVariants as service
use Rattle.gw_ending.specs.Ending.{fault_of_metrics, fault_of_state, fault_of_store}
use Rattle.gw_ending.specs.reading.Configured.{IsConfigurationOf}
use Rattle.gw_ending.specs.declared.fault.Fault.{Fault}
use Rattle.gw_ending.specs.declared.fault.Fault.TheVariants as fault

-- why a configuration isn't served, or not to the end, as the program reports it
abbrev pub fault_of_service : ServiceFault → Fault
fault_of_service service.Log = fault.Log
fault_of_service (service.Socket port) = fault.Socket port
fault_of_service service.Memory = fault.Memory
fault_of_service service.CountEnd = fault.CountEnd
fault_of_service (service.StateUnreadable why) = fault.StateUnreadable why
fault_of_service (service.State f) = fault_of_state f f.kind
fault_of_service (service.Store f) = fault_of_store f
fault_of_service (service.Trial f) = fault.Trial f
fault_of_service service.Audit = fault.Audit
fault_of_service (service.Metrics f) = fault_of_metrics f

-- how serving ends, as the program reports it
abbrev pub served : Result (Unit {0}) ServiceFault → Result (Unit {0}) Fault
served (Ok done) = Ok done
served (Err f) = Err (fault_of_service f)

-- The configuration of a text that was read, with the text's checksum; its first fault; or why none was read. Memory may run out at
-- any text.
abbrev pub IsEditionOf : Result (List ℕ) Fault → Result Edition Fault → Type 0
IsEditionOf (Ok text) (Ok e) = IsEdition text e
IsEditionOf (Ok text) (Err f) = IsConfigurationOf (Ok text) (Err f)
IsEditionOf (Err f) e = e ≡ Err f

-- What `run` leaves under the configuration that was read. If there is none nothing is opened, and the outcome is why.
abbrev pub LeavesRun : {C Log Sockets S Q : Type 0} → TimedMachine C Log Sockets S Q
    → (held holds : Option (List ℕ)) → RunOptions
    → Result Edition Fault → (said : List ℕ) → Result (Unit {0}) Fault → Type 0
LeavesRun machine held holds options (Ok e) said outcome =
    (done : Result (Unit {0}) ServiceFault) × LeavesTimed machine options held holds e said done
    × (outcome ≡ served done)
LeavesRun machine held holds options (Err f) said outcome = (outcome ≡ Err f) × (holds ≡ held) × (said ≡ [])
