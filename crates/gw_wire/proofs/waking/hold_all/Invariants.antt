use Rattle.std.proofs.Common.{◌≡◌, ◌≤◌, ◌<◌, ℕ}
use Rattle.gw_wire.specs.Ports.{AtPlace, Stay, asked}
use Rattle.gw_wire.specs.Waking.{pair_holding}
use Rattle.gw_wire.proofs.waking.hold_all.Given as goal

abbrev pub invariant-loop-place : goal.invariant-loop-place
invariant-loop-place g l = record {
  stay : Stay 0 l.place l.fn.ports.pairs l.ports.pairs;
  holding : (k : ℕ) → 0 ≤ k → k < l.place → AtPlace l.fn.ports.pairs l.ports.pairs k (λ one two. two ≡ pair_holding one);
  rest : l.ports ≡ asked l.ports.pairs l.fn.ports;
}
