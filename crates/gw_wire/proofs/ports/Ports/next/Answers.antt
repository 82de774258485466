use Rattle.std.proofs.Common.{ap, arith, refl, subst, ◌≤◌}
use Rattle.gw_wire.specs.Ports.{Ports, tick, ticked}
use Rattle.gw_wire.proofs.HoldLemmas.{heard_next}
use Rattle.gw_wire.proofs.ports.Ports.next.Goals as goal

pub returns-then-self-gt0-clause-next : goal.returns-then-self-gt0-clause-next
returns-then-self-gt0-clause-next g c =
    tick (subst (λ (w : Ports _). 1 ≤ w.ticks) c.self.view_is c.if-self-gt0.true) (ap ticked c.self.view_is) refl

pub returns-clause-next : goal.returns-clause-next
returns-clause-next g c =
    heard_next g.S.Sock.look_count g.S.Sock.is_empty g.S.Sock.Answered c.args.self.now c.hear.new.self c.hear.new.buf c.hear.result
    (omega (arith, ap (λ (w : Ports _). w.ticks) c.self.view_is, c.if-self-gt0.false)) c.hear.ensures.heard
