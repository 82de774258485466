use Rattle.std.proofs.Common.{◌-◌, length}
use Rattle.gw_ask_sets.specs.regions.Comparing.{DecideFrom}
use Rattle.gw_ask_sets.proofs.regions.deciders.deciders_of.Given as goal

abbrev pub invariant-loop-count : goal.invariant-loop-count
invariant-loop-count l = DecideFrom l.rules l.region (length l.rules - l.count) l.numbers.items
