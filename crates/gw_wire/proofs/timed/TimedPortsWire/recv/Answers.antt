use Rattle.std.proofs.Common.{arith, ap, subst, ℕ, ◌≡◌, ◌⊎◌}
use Rattle.gw_wire.specs.Timed.{BeginsAnew}
use Rattle.gw_wire.specs.declared.timed.TimedPorts.{TimedPorts}
use Rattle.std.specs.Duration.{as_nanos}
use Rattle.gw_wire.proofs.TimedLemmas.{looked_in_time, received}
use Rattle.std.proofs.lemmas.Grind.{common_steps}
use Rattle.gw_wire.proofs.timed.TimedPortsWire.recv.Goals as goal

pub returns-clause-received : goal.returns-clause-received
returns-clause-received g c =
    let behind = c.recv_behind.ensures in
    received g.C.Timepiece.Shows g.P.Waiter.Waited g.P.Waiter.Quiet g.S.Sock.look_count g.S.Sock.is_empty g.S.Sock.Answered c.args.self.now
    c.count_seconds.new.self c.look.new.self c.next-came.new.self c.recv_behind.new.self (as_nanos c.in-Ok.most) c.next-came.new.buf c.recv_behind.new.buf
    c.next-came.result c.recv_behind.result c.in-Ok.ensures.counts c.in-Ok-look.ensures.looks c.next-came.ensures.next c.next-came.ensures.stays
    behind.came behind.stays behind.buffer behind.later

pub returns-clause-looked : goal.returns-clause-looked
returns-clause-looked g c =
    looked_in_time g.C.Timepiece.Shows g.P.Waiter.Waited g.P.Waiter.Quiet c.args.self.now
    c.count_seconds.new.self c.look.new.self c.recv_behind.new.self (as_nanos c.in-Ok.most)
    c.in-Ok.ensures.counts c.in-Ok-look.ensures.looks
    (subst (λ (n : ℕ). (c.recv_behind.new.self.unlooked ≡ n) ⊎ BeginsAnew g.P.Waiter.Waited c.recv_behind.new.self)
    (ap (λ (t : TimedPorts _ _ _). t.unlooked) c.next-came.ensures.stays) c.recv_behind.ensures.unlooked)

pub returns-clause-failures : goal.returns-clause-failures
returns-clause-failures g c = grind (arith, common_steps)
