use Rattle.std.proofs.Common.{◌≡◌, ◌∙◌, ℕ, suc, ◌+◌, arith, refl, subst}
use Rattle.gw_turns.specs.Announcing.{AreAnnounced}
use Rattle.gw_turns.proofs.announcing.Announcing.announce.Goals as goal

pub loop-place-init : goal.loop-place-init
unfolding AreAnnounced
loop-place-init g c = record {
  announced = (refl, refl);
  counted = λ served tally more room. room;
  ports = refl;
  behind = refl;
}

pub loop-place-preserved : goal.loop-place-preserved
unfolding AreAnnounced
loop-place-preserved g c =
    let calls = g.W.Wire.calls in
    let so_far = c.loop-place.invariant in
    let place = c.loop-place.place in
    let step = c.announce_at.ensures in
    let next : suc place ≡ place + 1 = omega arith in
    record {
      announced = subst (λ (n : ℕ). AreAnnounced n c.args.self.now c.args.gateway.now (calls c.args.wire.now) c.announce_at.new.self
          (calls c.announce_at.new.wire)) next (c.loop-place.self, calls c.loop-place.wire, so_far.announced, step.announces);
      counted = λ served tally more room. step.counted served tally more (so_far.counted served tally more room);
      ports = step.ports ∙ so_far.ports;
      behind = step.behind ∙ so_far.behind;
    }

pub returns-clause-announces : goal.returns-clause-announces
returns-clause-announces g c =
    let calls = g.W.Wire.calls in
    let ends : c.loop-place.place ≡ 8 = omega (arith, c.loop-place.auto.place-end, c.loop-place-test.false) in
    subst (λ (n : ℕ). AreAnnounced n c.args.self.now c.args.gateway.now (calls c.args.wire.now) c.loop-place.self (calls c.loop-place.wire))
    ends c.loop-place.invariant.announced
