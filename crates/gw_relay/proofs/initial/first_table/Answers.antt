use Rattle.std.proofs.Common.{◌≡◌, refl, map}
use Rattle.gw_relay.specs.Initial.{direct_of, routed_of}
use Rattle.gw_relay.proofs.Configured.{distinct_networks, nothing_learned}
use Rattle.gw_relay.proofs.initial.first_table.Goals as goal

pub new-requires-clause-distinct : goal.new-requires-clause-distinct
new-requires-clause-distinct c =
    let config = c.args.config.now in
    let direct : c.in_ok-direct.direct.items ≡ direct_of config = c.in_ok-direct.ensures.networks in
    let routed : c.in_ok-configured.configured.items ≡ map routed_of config.routes = rw
    (c.in_ok-configured.ensures, c.routes.ensures.routes) refl in
    rw (direct, routed) (distinct_networks config c.in_ok-direct.ensures.once)

pub returns : goal.returns
returns c =
    let config = c.args.config.now in
    let direct : c.in_ok-direct.direct.items ≡ direct_of config = c.in_ok-direct.ensures.networks in
    let routed : c.in_ok-configured.configured.items ≡ map routed_of config.routes = rw
    (c.in_ok-configured.ensures, c.routes.ensures.routes) refl in
    let made = rw (direct, routed, nothing_learned) at c.in_ok-table.ensures.made in
    made
