use Rattle.gw_wire.proofs.TurnLemmas.{asked_second, heard_first}
use Rattle.gw_wire.proofs.ports.Ports.ask_all.Goals as goal

pub returns-in-Some-clause-turns : goal.returns-in-Some-clause-turns
returns-in-Some-clause-turns g c =
    heard_first g.S.Sock.look_count g.S.Sock.is_empty g.S.Sock.Answered c.args.self.now _ _ _ c.in-Some.heard _
    c.last_place-last.ensures.place c.count-count.ensures.count c.in-Some.ensures.each

pub returns-in-None-clause-turns : goal.returns-in-None-clause-turns
returns-in-None-clause-turns g c =
    asked_second g.S.Sock.look_count g.S.Sock.is_empty g.S.Sock.Answered c.args.self.now c.ask_from.new.self _ _ _ _ c.ask_from.new.buf _
    c.last_place-last.ensures.place c.count-count.ensures.count c.ask_from.ensures.rest c.in-None.ensures.each c.ask_from-in-None.ensures.each
