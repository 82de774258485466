use Rattle.std.proofs.Common.{◌≡◌}
use Rattle.gw_wire.specs.internal.Asking.{ArePassedFrom}
use Rattle.gw_wire.specs.Ports.{Stay}
use Rattle.gw_wire.proofs.ports.Ports.ask_from.Given as goal

abbrev pub invariant-loop-place : goal.invariant-loop-place
invariant-loop-place g l = record {
  stay : Stay l.from l.place l.fn.self.pairs l.self-inside.pairs.items;
  passed : ArePassedFrom g.S.Sock.look_count g.S.Sock.is_empty g.S.Sock.Answered l.from l.place l.fn.self.pairs l.self-inside.pairs.items;
  first : l.self-inside.own_first ≡ l.fn.self.own_first;
  ticks : l.self-inside.ticks ≡ l.fn.self.ticks;
  last : l.self-inside.last ≡ l.fn.self.last;
  failures : l.self-inside.failures ≡ l.fn.self.failures;
}
