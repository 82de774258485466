use Rattle.std.proofs.Common.{◌≡◌, ℕ, drop, nat_eq, take}
use Rattle.std.specs.List.{list_any}
use Rattle.gw_configuration.specs.Duplicates.{second, second_behind}
use Rattle.gw_configuration.proofs.duplicates.second.Given as goal

abbrev pub invariant-loop-index : goal.invariant-loop-index
invariant-loop-index l = record {
  sought : second_behind nat_eq (take l.index l.numbers) l.index (drop l.index l.numbers) ≡ second nat_eq l.numbers;
  seen : (q : ℕ) → list_any (nat_eq q) l.seen.keys ≡ list_any (nat_eq q) (take l.index l.numbers);
}
