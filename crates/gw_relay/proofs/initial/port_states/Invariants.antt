use Rattle.std.proofs.Common.{◌≡◌, ◌++◌, ◌+◌, drop}
use Rattle.gw_relay.specs.Initial.{port_states_from}
use Rattle.gw_relay.proofs.initial.port_states.Given as goal

-- what is made and what is left are all ports
abbrev pub invariant-loop-place : goal.invariant-loop-place
invariant-loop-place l = l.states.items ++ port_states_from (1 + l.place) (drop l.place l.ports) ≡ port_states_from 1 l.ports
