use Rattle.std.proofs.Common.{ap, arith, length, refl, subst, sym, ◌∙◌, ◌≡◌}
use Rattle.std.proofs.lemmas.Grind.{common_steps}
use Rattle.gw_wire.specs.internal.Asking.{AreAskedInTurn, turn_of}
use Rattle.gw_wire.specs.Ports.{IsHeard, Ports, Turn, asked, handed_in, nothing, sockets_in_turn, something}
use Rattle.gw_wire.proofs.ports.Ports.hear.Goals as goal

pub returns-in-None-clause-heard : goal.returns-in-None-clause-heard
returns-in-None-clause-heard g c =
    nothing c.ask_all.ensures.count
    (subst (λ given. AreAskedInTurn g.S.Sock.look_count g.S.Sock.is_empty g.S.Sock.Answered c.args.self.now.pairs
    c.ask_all.new.self.pairs (sockets_in_turn c.args.self.now) given c.ask_all.new.buf) c.in-None.is c.ask_all.ensures.turns)
    c.ask_all.ensures.rest refl

pub returns-in-Some-clause-heard : goal.returns-in-Some-clause-heard
returns-in-Some-clause-heard g c =
    let turn : Turn = turn_of c.in-Some.heard in
    let before = c.args.self.now in
    let same : c.hand_in.new.self.pairs ≡ c.ask_all.new.self.pairs = ap (λ (w : Ports _). w.pairs) c.hand_in.ensures.last in
    something turn c.in-Some.heard.said
    (ap length same ∙ c.ask_all.ensures.count)
    (subst (λ pairs. IsHeard g.S.Sock.look_count g.S.Sock.is_empty g.S.Sock.Answered before.pairs pairs (sockets_in_turn before)
    turn c.in-Some.heard.said c.ask_all.new.buf) (sym same) c.in-Some.ensures.turns)
    (c.hand_in.ensures.last ∙ ap (handed_in turn c.in-Some.heard.said) (c.ask_all.ensures.rest ∙ ap (λ pairs. asked pairs before) (sym same)))
    c.hand_in.ensures.given

pub returns-in-Some-clause-handed_in : goal.returns-in-Some-clause-handed_in
returns-in-Some-clause-handed_in g c = grind (arith, common_steps)

pub returns-in-Some-clause-failures : goal.returns-in-Some-clause-failures
returns-in-Some-clause-failures g c = grind (arith, common_steps)
