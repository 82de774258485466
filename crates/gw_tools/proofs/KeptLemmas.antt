-- What `state` says of a text that is none of a state.
use Rattle.std.proofs.Common.{ℕ, List, Err}
use Rattle.gw_configuration.specs.Configuration.{Configuration}
use Rattle.gw_state_text.specs.Place.{IsPlaceOf}
use Rattle.gw_state_text.specs.declared.fault.FaultKind.{FaultKind}
use Rattle.gw_state_text.specs.declared.fault.FaultKind.TheVariants as state_fault
use Rattle.gw_state_text.specs.declared.fault.StateFault.{StateFault}
use Rattle.gw_ending.specs.Ending.{fault_of_state}
use Rattle.gw_tools.specs.Kept.{IsSaidOf}

pub said_fault : (c : Configuration) (text : List ℕ) (f : StateFault) (kind : FaultKind) → IsPlaceOf text f.line
    → IsSaidOf c text (Err (fault_of_state f kind))
said_fault c text f state_fault.Version place = place
said_fault c text f state_fault.Line place = place
said_fault c text f state_fault.Range place = place
said_fault c text f state_fault.Twice place = place
said_fault c text f state_fault.TooMany place = place
said_fault c text f state_fault.Cut place = place
said_fault c text f state_fault.Memory place = tt
