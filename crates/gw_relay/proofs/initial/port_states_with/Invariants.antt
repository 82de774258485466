use Rattle.std.proofs.Common.{◌≡◌, ◌++◌, ◌+◌, length}
use Rattle.std.specs.Iterator.Adapters.{zip_first, zip_second}
use Rattle.std.specs.Slice.Iter.{iter_rest}
use Rattle.std.specs.Vec.Iter.{into_iter_items, into_iter_len}
use Rattle.gw_relay.specs.Initial.{port_states_with}
use Rattle.gw_relay.proofs.initial.port_states_with.Given as goal

-- what is made and what is left are all states
abbrev pub invariant-loop-port : goal.invariant-loop-port
invariant-loop-port l =
    let ports = iter_rest (zip_first l.port-iterator) in
    let rest = zip_second l.port-iterator in
    record {
      states : l.states.items ++ port_states_with (length l.states.items + 1) ports (into_iter_items rest)
          ≡ port_states_with 1 l.ports l.fn.tables.items;
      few : length l.states.items + length ports ≡ length l.ports;
      len : into_iter_len rest ≡ length (into_iter_items rest);
    }
