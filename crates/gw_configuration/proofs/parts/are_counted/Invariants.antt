use Rattle.std.proofs.Common.{◌≡◌, drop}
use Rattle.gw_configuration.specs.Configuration.{are_counted}
use Rattle.gw_configuration.proofs.parts.are_counted.Given as goal

abbrev pub invariant-loop-position : goal.invariant-loop-position
invariant-loop-position l = are_counted l.position (drop l.position l.places) ≡ are_counted 0 l.places
