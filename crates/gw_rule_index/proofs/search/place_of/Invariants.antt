use Rattle.std.proofs.Common.{◌≡◌, ◌+◌, ◌-◌, ◌^◌, ◌≤◌, length}
use Rattle.gw_rule_index.proofs.Halving.{Nears}
use Rattle.gw_rule_index.proofs.search.place_of.Given as goal

abbrev pub invariant-loop-step : goal.invariant-loop-step
invariant-loop-step l = record {
  nears : Nears l.bounds l.value l.low l.high (2 ^ (13 - l._step));
  comparisons : l.counted.comparisons ≤ l.fn.counted.comparisons + l._step;
  stays : l.fn.counted.comparisons ≤ l.counted.comparisons;
  starts : l._step ≡ 0 → (l.low ≡ 0) × (l.high ≡ length l.bounds);
  some : 1 ≤ l._step → 1 ≤ length l.bounds → l.fn.counted.comparisons + 1 ≤ l.counted.comparisons;
  ands : l.counted.ands ≡ l.fn.counted.ands;
}
