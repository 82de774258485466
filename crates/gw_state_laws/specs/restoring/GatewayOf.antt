-- Which states a gateway can be in that began new, or took over the text of a saved state.
use Rattle.gw_configuration.specs.Configuration.{Configuration}
use Rattle.gw_state_laws.specs.continuity.StateOf.{HaveTheirSlots, IsStateOf}
use Rattle.gw_core.specs.State.{State}

-- a state of the configuration in which each object has its slots
pub record IsGatewayOf (c : Configuration) (w : State) : Type 0 where
  pub state : IsStateOf c w
  pub slots : HaveTheirSlots w.device.states
