use Rattle.std.proofs.Common.{◌≤◌, ℕ, length, subst, sym, ap, ◌∙◌, arith}
use Rattle.gw_relay.specs.State.{Relay}
use Rattle.gw_core.proofs.HistoryLemmas.{after_none, length_from}
use Rattle.gw_core.proofs.gateway.Gateway.new.Goals as goal

pub invariant_of-result : goal.invariant_of-result
invariant_of-result c = record {
  some = omega (arith, ap length c.ports.ensures.ports, c.ports.ensures.some);
  most = omega (arith, ap length c.ports.ensures.ports, c.ports.ensures.most);
  ports = ap (λ (r : Relay). length r.ports) c.in_ok-relay.ensures.initial ∙ length_from 1 c.args.config.ports ∙ sym (ap length c.ports.ensures.ports);
  later = subst (λ (n : ℕ). n ≤ c.args.counts.ticks) (sym (ap (λ (r : Relay). r.ticks) c.in_ok-relay.ensures.initial)) (omega arith);
  ticks = c.requires.ticks;
  denials = c.requires.denials;
}

pub returns : goal.returns
returns c = record { state = grind (arith, after_none) }
