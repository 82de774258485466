use Rattle.std.proofs.Common.{arith, get_or, length, ◌≡◌, ◌<◌, subst, ◌∙◌}
use Rattle.std.proofs.lemmas.List.{get_or_default}
use Rattle.gw_wire.specs.SockPair.{ArePassed}
use Rattle.gw_wire.specs.internal.Asking.{ArePassedFrom}
use Rattle.gw_wire.specs.Ports.{Stay}
use Rattle.gw_wire.proofs.PortLemmas.{each_set, stay_set}
use Rattle.gw_wire.proofs.ports.Ports.ask_from.Goals as goal

pub loop-place-preserved : goal.loop-place-preserved
loop-place-preserved g c =
    let kept = c.loop-place.invariant in
    let pairs = c.loop-place.self-inside.pairs.items in
    let inside : c.loop-place.place < length pairs = omega (arith, kept.stay.count, c.requires.within, c.loop-place-test.true) in
    let here : (d : _) → ArePassed g.S.Sock.look_count g.S.Sock.is_empty g.S.Sock.Answered (get_or pairs c.loop-place.place d) c.ask.new.self =
    λ d. subst (λ one. ArePassed g.S.Sock.look_count g.S.Sock.is_empty g.S.Sock.Answered one c.ask.new.self)
    (c.index_mut.ensures.value ∙ get_or_default pairs c.loop-place.place _ d inside)
    (c.ask.ensures.passed c.in_default.is) in
    record {
      stay = stay_set c.args.from c.loop-place.place c.args.self.now.pairs pairs c.ask.new.self kept.stay c.loop-place.auto.place;
      passed = each_set (λ _. ArePassed g.S.Sock.look_count g.S.Sock.is_empty g.S.Sock.Answered) c.args.from c.loop-place.place c.args.self.now.pairs pairs c.ask.new.self kept.stay inside kept.passed here;
      first = kept.first;
      ticks = kept.ticks;
      last = kept.last;
      failures = kept.failures;
    }

pub returns-clause-each : goal.returns-clause-each
returns-clause-each g c =
    let kept = c.loop-place.invariant in
    let ends : c.loop-place.place ≡ c.args.to = omega (arith, c.loop-place.auto.place-end c.requires.order, c.loop-place-test.false) in (
      subst (λ to. Stay c.args.from to c.args.self.now.pairs c.loop-place.self-inside.pairs.items) ends kept.stay,
      subst (λ to. ArePassedFrom g.S.Sock.look_count g.S.Sock.is_empty g.S.Sock.Answered c.args.from to c.args.self.now.pairs c.loop-place.self-inside.pairs.items) ends kept.passed,
    )
