use Rattle.std.proofs.Common.{◌≡◌, ℕ, suc, ◌+◌, arith, subst}
use Rattle.std.specs.Io.KnownBytes.{Appends}
use Rattle.std.proofs.KnownBytes.{Appends-nil, Appends-trans}
use Rattle.gw_turns.specs.Ports.{datagrams_at, sends_at}
use Rattle.gw_turns.specs.Reports.{port_line, port_lines}
use Rattle.gw_turns.proofs.report.write_ports.Goals as goal

pub loop-place-init : goal.loop-place-init
unfolding port_lines
loop-place-init g c = record {
  written = Appends-nil (g.S.OctetSink.held c.args.sink.now);
  lasts = λ never. never;
}

pub loop-place-preserved : goal.loop-place-preserved
unfolding port_lines
loop-place-preserved g c =
    let held = g.S.OctetSink.held in
    let so_far = c.loop-place.invariant in
    let place = c.loop-place.place in
    let r = c.args.report.now in
    let next : suc place ≡ place + 1 = omega arith in
    record {
      written = subst (λ (n : ℕ). Appends (held c.args.sink.now) (held c.write_port.new.sink) (port_lines r n)) next
          (Appends-trans (held c.args.sink.now) (held c.loop-place.sink) (held c.write_port.new.sink) (port_lines r place)
          (port_line (place + 1) (datagrams_at r.tally.ports place) (sends_at r.ports place)) so_far.written c.in_ok-write_port.ensures.ok);
      lasts = λ never. c.write_port.ensures.lasts (so_far.lasts never);
    }

pub returns-clause-ok : goal.returns-clause-ok
returns-clause-ok g c =
    let held = g.S.OctetSink.held in
    let ends : c.loop-place.place ≡ c.args.report.now.port_count = omega (arith, c.loop-place.auto.place-end, c.loop-place-test.false) in
    subst (λ (n : ℕ). Appends (held c.args.sink.now) (held c.loop-place.sink) (port_lines c.args.report.now n)) ends c.loop-place.invariant.written
