use Rattle.std.proofs.Common.{sym, ◌∙◌}
use Rattle.gw_wire.specs.Timed.{before_tick, unheld}
use Rattle.gw_wire.proofs.HoldLemmas.{next_released}
use Rattle.gw_wire.proofs.timed.next_of.Goals as goal

pub returns-then-is_idle-clause-next : goal.returns-then-is_idle-clause-next
returns-then-is_idle-clause-next g c =
    next_released g.S.Sock.look_count g.S.Sock.is_empty g.S.Sock.Answered c.args.ports.now c.hear-heard.new.self c.next.new.self
    c.hear-heard.new.buf c.next.new.buf c.hear-heard.result c.next.result (sym c.is_tick_held.ensures ∙ c.if-is_tick_held.true)
    c.hear-heard.ensures.heard (sym c.is_idle.ensures ∙ c.if-is_idle.true) c.next.ensures.next

pub returns-then-is_tick_held-clause-next : goal.returns-then-is_tick_held-clause-next
returns-then-is_tick_held-clause-next g c =
    before_tick (sym c.is_tick_held.ensures ∙ c.if-is_tick_held.true) c.hear-heard.ensures.heard (sym c.is_idle.ensures ∙ c.if-is_idle.false)

pub returns-clause-next : goal.returns-clause-next
returns-clause-next g c = unheld (sym c.is_tick_held.ensures ∙ c.if-is_tick_held.false) c.next-2.ensures.next
