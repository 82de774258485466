use Rattle.std.proofs.Common.{◌∙◌, ap, map}
use Rattle.gw_relay.specs.Initial.{direct_of, port_states_from, routed_of}
use Rattle.gw_relay.proofs.Histories.{configured_stand}
use Rattle.gw_relay.proofs.WayLemmas.{none_learned}
use Rattle.gw_relay.proofs.Peers.{all_peers_once}
use Rattle.gw_relay.proofs.Ticks.{initial_alike}
use Rattle.gw_relay.proofs.relay.Relay.new.Goals as goal

pub invariant_of-result : goal.invariant_of-result
invariant_of-result c = rw c.in_ok-ports.ensures (initial_alike 1 c.ports.result.now)

pub returns-clause-stands : goal.returns-clause-stands
returns-clause-stands c =
    c.in_ok-ports.ensures ∙ ap (port_states_from 1) c.ports.ensures.ports ∙ configured_stand 1 c.args.config.now.ports

pub port_states-requires-clause-once : goal.port_states-requires-clause-once
port_states-requires-clause-once c = rw c.ports.ensures.ports (all_peers_once c.args.config.now c.ports.ensures.once)

pub returns-clause-learnings : goal.returns-clause-learnings
returns-clause-learnings c =
    c.in_ok-routes.ensures ∙ none_learned (direct_of c.args.config.now) (map routed_of c.args.config.now.routes)
