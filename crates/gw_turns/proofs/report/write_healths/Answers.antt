use Rattle.std.proofs.Common.{◌≡◌, ℕ, suc, ◌+◌, length, arith, ap, subst}
use Rattle.std.specs.Io.KnownBytes.{Appends}
use Rattle.std.proofs.KnownBytes.{Appends-nil, Appends-trans}
use Rattle.gw_relay.specs.State.{Relay}
use Rattle.gw_turns.specs.Ports.{sends_at}
use Rattle.gw_turns.specs.Reports.{health_lines, health_text, shown}
use Rattle.gw_turns.specs.declared.ports.Health.{Health}
use Rattle.gw_turns.proofs.report.write_healths.Goals as goal

pub loop-place-init : goal.loop-place-init
unfolding health_lines
loop-place-init g c = record {
  written = Appends-nil (g.S.OctetSink.held c.args.sink.now);
  lasts = λ never. never;
}

pub loop-place-preserved : goal.loop-place-preserved
unfolding health_lines
loop-place-preserved g c =
    let held = g.S.OctetSink.held in
    let so_far = c.loop-place.invariant in
    let place = c.loop-place.place in
    let s = c.args.served.now in
    let seconds = c.args.seconds in
    let health = shown seconds s.ticks (sends_at s.ports place).health in
    let next : suc place ≡ place + 1 = omega arith in
    let written : Appends (held c.loop-place.sink) (held c.write_health.new.sink) (health_text (place + 1) health) =
    subst (λ (h : Health). Appends (held c.loop-place.sink) (held c.write_health.new.sink) (health_text (place + 1) h))
    c.shown-health.ensures c.in_ok-write_health.ensures.ok in
    record {
      written = subst (λ (n : ℕ). Appends (held c.args.sink.now) (held c.write_health.new.sink) (health_lines seconds s n)) next
          (Appends-trans (held c.args.sink.now) (held c.loop-place.sink) (held c.write_health.new.sink) (health_lines seconds s place)
          (health_text (place + 1) health) so_far.written written);
      lasts = λ never. c.write_health.ensures.lasts (so_far.lasts never);
    }

pub returns-clause-ok : goal.returns-clause-ok
returns-clause-ok g c =
    let held = g.S.OctetSink.held in
    let seconds = c.args.seconds in
    let s = c.args.served.now in
    let ends : c.loop-place.place ≡ length c.args.gateway.now.relay.ports =
    omega (arith, c.loop-place.auto.place-end, c.loop-place-test.false, ap length c.ports-place-end.ensures, ap (λ (r : Relay). length r.ports) c.relay.ensures.parts) in
    subst (λ (n : ℕ). Appends (held c.args.sink.now) (held c.loop-place.sink) (health_lines seconds s n)) ends c.loop-place.invariant.written
