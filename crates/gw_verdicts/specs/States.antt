-- The states of a gateway that goes by a configuration, whatever came before: it began new, or took over what a gateway left,
-- perhaps under another configuration, as after a restart or a reload, or went on from such a state.
use Rattle.std.specs.Prelude.{◌≡◌, ⊤, ℕ, ◌+◌, List, [], ◌∷◌}
use Rattle.gw_configuration.specs.Configuration.{Configuration}
use Rattle.gw_configuration.specs.declared.port.Port.{Port as ConfiguredPort}
use Rattle.gw_core.specs.History.{state_after, state_from}
use Rattle.gw_core.specs.Resumed.{carried}
use Rattle.gw_core.specs.State.{State}
use Rattle.gw_core.specs.declared.event.Counts.{Counts}
use Rattle.gw_objects.specs.Objects.{database_of}
use Rattle.gw_relay.specs.Initial.{direct_of, port_of}
use Rattle.gw_relay.specs.declared.port.PortState.{PortState}
use Rattle.gw_script.specs.Event.{Event}
use Rattle.gw_state.specs.Saved.{Saved}

-- these are the ports, whose numbers are counted on, each with its stations
abbrev pub ArePortsOf : (number : ℕ) → List ConfiguredPort → List PortState → Type 0
ArePortsOf number [] [] = ⊤
ArePortsOf number (p ∷ ports) (state ∷ states) =
    (state.port ≡ port_of number p) × (state.stations ≡ p.stations) × ArePortsOf (number + 1) ports states
ArePortsOf number _ _ = ⊥

-- Whatever is configured is as in the configuration. What is learned, registered, written and counted may be anything.
pub record IsStateUnder (c : Configuration) (w : State) : Type 0 where
  pub format : w.relay.format ≡ c.format
  pub announce : w.relay.announce ≡ c.announce
  pub direct : w.relay.routes.direct ≡ direct_of c
  pub ports : ArePortsOf 1 c.ports w.relay.ports
  pub device : w.device.configured ≡ (database_of c).configured
  pub rules : w.rules ≡ c.rules

-- So it is after every history of a gateway that began new,
abbrev pub HistoriesAreUnder : Type 0
HistoriesAreUnder = (c : Configuration) (k : Counts) (h : List Event) → IsStateUnder c (state_after c k h)

-- at once in a gateway that takes over what was saved, under whatever configuration that was,
abbrev pub CarriedAreUnder : Type 0
CarriedAreUnder = (c : Configuration) (s : Saved) → IsStateUnder c (carried c s)

-- and after each list of events from such a state.
abbrev pub StatesStayUnder : Type 0
StatesStayUnder = (c : Configuration) (w : State) (l : List Event) → IsStateUnder c w → IsStateUnder c (state_from w l)
