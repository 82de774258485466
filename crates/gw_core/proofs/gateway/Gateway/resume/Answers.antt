use Rattle.std.proofs.Common.{◌≡◌, ◌∙◌, ap, sym, subst, ℕ, ◌≤◌, List, length, arith}
use Rattle.std.specs.List.{AllByRecursion}
use Rattle.gw_tables.specs.declared.bdt_fdt.tables.PortTables.{PortTables}
use Rattle.gw_configuration.specs.declared.port.Port.{Port}
use Rattle.gw_relay.proofs.Peers.{all_peers_once}
use Rattle.gw_relay.specs.State.{Relay}
use Rattle.gw_state.specs.declared.counts.SavedCounts.{SavedCounts}
use Rattle.gw_core.proofs.Resuming.{length_with}
use Rattle.gw_core.proofs.gateway.Gateway.resume.Goals as goal

pub carry_tables-requires : goal.carry_tables-requires
carry_tables-requires c = record {
  once = rw c.ports-ports.ensures.ports (all_peers_once c.args.config c.ports-ports.ensures.once);
}

pub resume-requires-clause-ticks : goal.resume-requires-clause-ticks
resume-requires-clause-ticks c =
    subst (λ (n : ℕ). AllByRecursion (λ (t : PortTables). t.fdt.ticks ≡ n) c.in_ok-tables.tables.items)
    (sym (ap (λ (counts : SavedCounts). counts.since) c.counts-counts.ensures.counts))
    c.in_ok-tables.ensures.ticks

pub invariant_of-result : goal.invariant_of-result
invariant_of-result c =
    let ports = ap (λ (ports : List Port). length ports) c.ports-ports.ensures.ports in
    let some = c.ports-ports.ensures.some in
    let most = c.ports-ports.ensures.most in
    record {
      some = omega (arith, ports, some);
      most = omega (arith, ports, most);
      ports = ap (λ (r : Relay). length r.ports) c.in_ok-relay.ensures
          ∙ length_with 1 c.args.config.ports c.in_ok-tables.tables.items (c.in_ok-tables.ensures.each ∙ ports)
          ∙ sym ports;
      later = subst (λ (n : ℕ). n ≤ c.counts-counts.result.ticks) (sym (ap (λ (r : Relay). r.ticks) c.in_ok-relay.ensures)) c.counts-counts.ensures.since;
      ticks = c.counts-counts.ensures.ticks;
      denials = c.counts-counts.ensures.denials;
    }
