use Rattle.std.proofs.Common.{◌≡◌, ◌∙◌, ◌+◌, Bool, arith, refl, subst}
use Rattle.std.specs.Prelude.{Ok}
use Rattle.gw_turns.specs.Serve.{scene}
use Rattle.gw_turns.specs.ServeTurn.{GuardedEnd}
use Rattle.gw_turns.specs.Stretch.{moment}
use Rattle.gw_turns.proofs.StretchLemmas.{stretch_faulty, stretch_more, stretch_none, stretch_tick, stretch_withheld, ticks_step}
use Rattle.gw_turns.proofs.ServeLemmas.{refused_along, refused_none}
use Rattle.gw_turns.proofs.serving.ServeState.serve_to_tick.Goals as goal

pub loop-init : goal.loop-init
loop-init g c =
    let held = g.L.OctetSink.held in
    let start = moment (scene c.args.gateway.now (held c.args.log.now) (g.W.Wire.calls c.args.wire.now)) c.args.guard.now c.args.self.now.served
    c.args.self.now.tally in
    record {
      end = stretch_none g.G.Guard.Passes start;
      turns = omega arith;
      left = omega arith;
      each = c.requires.each;
      calls = c.requires.calls;
      failures = refl;
      below = c.requires.below;
      refused = refused_none c.args.self.now.served c.args.self.now.refusals;
      ports = refl;
      lasting_log = λ never. never;
    }

pub returns-in-Err-clause-end : goal.returns-in-Err-clause-end
returns-in-Err-clause-end g c =
    let W = g.W.Wire in
    let held = g.L.OctetSink.held in
    let start = moment (scene c.args.gateway.now (held c.args.log.now) (W.calls c.args.wire.now)) c.args.guard.now c.args.self.now.served c.args.self.now.tally in
    let now = moment (scene c.loop.gateway (held c.loop.log) (W.calls c.loop.wire)) c.loop.guard c.loop.self.served c.loop.self.tally in
    let turn = c.take_guarded_turn.new in
    let then = moment (scene turn.gateway (held turn.log) (W.calls turn.wire)) turn.guard turn.self.served turn.self.tally in
    let Passes = g.G.Guard.Passes in
    stretch_faulty Passes c.loop.counter c.args.self.now.left start now then c.in-Err.fault _ c.loop.invariant.end c.loop-test.true c.in-Err.ensures.end

pub returns-then-not-is_passed-clause-end : goal.returns-then-not-is_passed-clause-end
returns-then-not-is_passed-clause-end g c =
    let W = g.W.Wire in
    let held = g.L.OctetSink.held in
    let start = moment (scene c.args.gateway.now (held c.args.log.now) (W.calls c.args.wire.now)) c.args.guard.now c.args.self.now.served c.args.self.now.tally in
    let now = moment (scene c.loop.gateway (held c.loop.log) (W.calls c.loop.wire)) c.loop.guard c.loop.self.served c.loop.self.tally in
    let turn = c.take_guarded_turn.new in
    let then = moment (scene turn.gateway (held turn.log) (W.calls turn.wire)) turn.guard turn.self.served turn.self.tally in
    let Passes = g.G.Guard.Passes in
    let left = turn.self.unwritten.items in
    let last = subst (λ (b : Bool). GuardedEnd Passes now (Ok b) left then) c.if-not-is_passed.true c.in-Ok.ensures.end in
    stretch_withheld Passes c.loop.counter c.args.self.now.left start now then left c.loop.invariant.end c.loop-test.true last

pub returns-then-ticks-counts-clause-end : goal.returns-then-ticks-counts-clause-end
returns-then-ticks-counts-clause-end g c =
    let W = g.W.Wire in
    let held = g.L.OctetSink.held in
    let start = moment (scene c.args.gateway.now (held c.args.log.now) (W.calls c.args.wire.now)) c.args.guard.now c.args.self.now.served c.args.self.now.tally in
    let now = moment (scene c.loop.gateway (held c.loop.log) (W.calls c.loop.wire)) c.loop.guard c.loop.self.served c.loop.self.tally in
    let turn = c.take_guarded_turn.new in
    let then = moment (scene turn.gateway (held turn.log) (W.calls turn.wire)) turn.guard turn.self.served turn.self.tally in
    let Passes = g.G.Guard.Passes in
    let left = turn.self.unwritten.items in
    let last = subst (λ (b : Bool). GuardedEnd Passes now (Ok b) left then) c.if-not-is_passed.false c.in-Ok.ensures.end in
    let step = ticks_step Passes now then left last in
    let rises : turn.gateway.ticks ≡ c.loop.gateway.ticks + 1 =
    omega (arith, step.1, c.counts-ticks.ensures.ticks, c.counts.ensures.ticks, c.if-ticks-counts.true) in
    stretch_tick Passes c.loop.counter c.args.self.now.left start now then left c.loop.invariant.end c.loop-test.true last rises

pub loop-preserved : goal.loop-preserved
loop-preserved g c =
    let W = g.W.Wire in
    let held = g.L.OctetSink.held in
    let start = moment (scene c.args.gateway.now (held c.args.log.now) (W.calls c.args.wire.now)) c.args.guard.now c.args.self.now.served c.args.self.now.tally in
    let now = moment (scene c.loop.gateway (held c.loop.log) (W.calls c.loop.wire)) c.loop.guard c.loop.self.served c.loop.self.tally in
    let turn = c.take_guarded_turn.new in
    let then = moment (scene turn.gateway (held turn.log) (W.calls turn.wire)) turn.guard turn.self.served turn.self.tally in
    let Passes = g.G.Guard.Passes in
    let unwritten = turn.self.unwritten.items in
    let last = subst (λ (b : Bool). GuardedEnd Passes now (Ok b) unwritten then) c.if-not-is_passed.false c.in-Ok.ensures.end in
    let step = ticks_step Passes now then unwritten last in
    let stays : turn.gateway.ticks ≡ c.loop.gateway.ticks =
    omega (arith, step.0, c.counts-ticks.ensures.ticks, c.counts.ensures.ticks, c.if-ticks-counts.false) in
    let so_far = c.loop.invariant in
    let this = c.in-Ok.ensures in
    record {
      end = stretch_more Passes c.loop.counter start now then unwritten so_far.end last stays;
      turns = omega (arith, so_far.turns, this.turns);
      left = omega (arith, so_far.left, this.left);
      each = this.each;
      calls = omega (arith, so_far.calls, this.turns, this.few);
      failures = omega (arith, so_far.failures, this.failures);
      below = this.below;
      refused = refused_along c.args.self.now.served c.loop.self.served turn.self.served _ _ _ so_far.refused this.refused;
      ports = this.ports ∙ so_far.ports;
      lasting_log = λ never. this.lasting_log (so_far.lasting_log never);
    }

pub returns-in-Err-clause-refused : goal.returns-in-Err-clause-refused
returns-in-Err-clause-refused g c = refused_along c.args.self.now.served c.loop.self.served c.take_guarded_turn.new.self.served _ _ _ c.loop.invariant.refused c.in-Err.ensures.refused

pub returns-then-not-is_passed-clause-refused : goal.returns-then-not-is_passed-clause-refused
returns-then-not-is_passed-clause-refused g c = refused_along c.args.self.now.served c.loop.self.served c.take_guarded_turn.new.self.served _ _ _ c.loop.invariant.refused c.in-Ok.ensures.refused

pub returns-then-ticks-counts-clause-refused : goal.returns-then-ticks-counts-clause-refused
returns-then-ticks-counts-clause-refused g c = refused_along c.args.self.now.served c.loop.self.served c.take_guarded_turn.new.self.served _ _ _ c.loop.invariant.refused c.in-Ok.ensures.refused
