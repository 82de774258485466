use Rattle.std.proofs.Common.{◌≡◌, length}
use Rattle.gw_system.proofs.udp.open_pairs.Given as goal

abbrev pub invariant-loop-place : goal.invariant-loop-place
invariant-loop-place g l = length l.pairs.items ≡ l.place
