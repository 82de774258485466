use Rattle.std.proofs.Common.{◌≡◌, ℕ, ap, sym, subst, ◌∙◌, arith, refl}
use Rattle.gw_turns.specs.declared.serving.Served.{Served}
use Rattle.gw_turns.specs.Serve.{ServesAll, zero_counts, scene}
use Rattle.gw_turns.specs.Stretch.{wire_counts}
use Rattle.gw_turns.proofs.ServeLemmas.{none_below, room_left, serves_more, serves_none, stops_then}
use Rattle.gw_turns.proofs.ServedLemmas.{stops_are_served, turns_are_served}
use Rattle.gw_turns.proofs.serving.serve.Goals as goal

pub loop-init : goal.loop-init
loop-init g c =
    let start = scene c.args.gateway.now (g.L.OctetSink.held c.args.log.now) (g.W.Wire.calls c.args.wire.now) in
    let none : c.new-state.result.served ≡ zero_counts = c.new-state.ensures.served in
    record {
      left = omega (arith, c.new-state.ensures.left);
      served = subst (λ (s : Served). ServesAll 0 start s start) (sym none) (serves_none start);
      failures = omega (arith, ap (λ (s : Served). s.recv_failures) none, ap (λ (s : Served). s.send_failures) none);
      below = none_below c.new-state.result.served.taken c.new-state.result.tally c.new-state.ensures.tally;
      few = omega (arith, ap wire_counts none);
      ports = refl;
      lasting_log = λ never. never;
    }

pub take_turn-requires : goal.take_turn-requires
take_turn-requires g c =
    let so_far = c.loop.invariant in
    let start = scene c.args.gateway.now (g.L.OctetSink.held c.args.log.now) (g.W.Wire.calls c.args.wire.now) in
    let now = scene c.loop.gateway (g.L.OctetSink.held c.loop.log) (g.W.Wire.calls c.loop.wire) in
    let failures = g.W.Wire.failure_count in
    let room = room_left c.loop.counter c.args.turns (failures c.args.wire.now) (failures c.loop.wire) start now c.loop.state.served in
    record {
      some = omega (arith, so_far.left, c.loop-test.true);
      room = room so_far.served c.loop-test.true c.requires.turns c.requires.failures so_far.few so_far.failures;
      below = so_far.below;
    }

pub loop-preserved : goal.loop-preserved
loop-preserved g c =
    let so_far = c.loop.invariant in
    let turn = c.in-Ok.ensures in
    let start = scene c.args.gateway.now (g.L.OctetSink.held c.args.log.now) (g.W.Wire.calls c.args.wire.now) in
    let now = scene c.loop.gateway (g.L.OctetSink.held c.loop.log) (g.W.Wire.calls c.loop.wire) in
    let then = scene c.take_turn.new.gateway (g.L.OctetSink.held c.take_turn.new.log) (g.W.Wire.calls c.take_turn.new.wire) in
    record {
      left = omega (arith, so_far.left, turn.left);
      served = serves_more c.loop.counter start now then c.loop.state.served c.take_turn.new.self.served c.loop.state.tally
          c.take_turn.new.self.tally so_far.served turn.end;
      below = turn.below;
      failures = omega (arith, so_far.failures, turn.failures);
      few = omega (arith, so_far.few, turn.few);
      ports = turn.ports ∙ so_far.ports;
      lasting_log = λ never. turn.lasting_log (so_far.lasting_log never);
    }

pub returns-in-Err-clause-calls : goal.returns-in-Err-clause-calls
returns-in-Err-clause-calls g c =
    let so_far = c.loop.invariant in
    let turn = c.in-Err.ensures in
    let start = scene c.args.gateway.now (g.L.OctetSink.held c.args.log.now) (g.W.Wire.calls c.args.wire.now) in
    let now = scene c.loop.gateway (g.L.OctetSink.held c.loop.log) (g.W.Wire.calls c.loop.wire) in
    let then = scene c.take_turn.new.gateway (g.L.OctetSink.held c.take_turn.new.log) (g.W.Wire.calls c.take_turn.new.wire) in
    let last = c.take_turn.new.self.served in
    stops_are_served c.args.turns start (record { fault = c.in-Err.fault; served = last }) then
    (stops_then c.loop.counter c.args.turns start now then c.loop.state.served last c.loop.state.tally c.take_turn.new.self.tally c.in-Err.fault
    so_far.served c.loop-test.true turn.end)

pub returns-clause-calls : goal.returns-clause-calls
returns-clause-calls g c =
    let start = scene c.args.gateway.now (g.L.OctetSink.held c.args.log.now) (g.W.Wire.calls c.args.wire.now) in
    let now = scene c.loop.gateway (g.L.OctetSink.held c.loop.log) (g.W.Wire.calls c.loop.wire) in
    let all : c.loop.counter ≡ c.args.turns = omega (arith, c.loop-test.false, c.loop.auto.counter-end) in
    turns_are_served c.args.turns start c.loop.state.served now
    (subst (λ (n : ℕ). ServesAll n start c.loop.state.served now) all c.loop.invariant.served)
