use Rattle.std.proofs.Common.{◌-◌, length}
use Rattle.std.specs.List.{AllByRecursion}
use Rattle.gw_ask_sets.specs.regions.Deciding.{DecidesIn}
use Rattle.gw_ask_sets.specs.regions.internal.Looking.{Divides}
use Rattle.gw_ask_sets.proofs.regions.deciding.deciding_of.Given as goal

abbrev pub invariant-loop-count : goal.invariant-loop-count
invariant-loop-count l = record {
  decides : DecidesIn l.rules l.region (length l.rules - l.count) l.made.places.items l.made.otherwise;
  divide : AllByRecursion (λ p. Divides l.rules l.region p) l.made.places.items;
}
