use Rattle.std.proofs.Common.{◌≡◌, ◌≤◌, ◌<◌, ℕ}
use Rattle.gw_wire.specs.Ports.{AtPlace, Stay, asked}
use Rattle.gw_wire.specs.Waking.{AreWoken}
use Rattle.gw_wire.proofs.waking.wake_all.Given as goal

abbrev pub invariant-loop-place : goal.invariant-loop-place
invariant-loop-place g l = record {
  stay : Stay 0 l.place l.fn.ports.pairs l.ports.pairs;
  woken : (k : ℕ) → 0 ≤ k → k < l.place → AtPlace l.fn.ports.pairs l.ports.pairs k (AreWoken (g.P.Waiter.Quiet l.waiter) k);
  rest : l.ports ≡ asked l.ports.pairs l.fn.ports;
}
