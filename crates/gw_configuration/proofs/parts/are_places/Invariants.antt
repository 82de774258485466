use Rattle.std.proofs.Common.{◌≡◌, drop}
use Rattle.gw_configuration.specs.Configuration.{are_places}
use Rattle.gw_configuration.proofs.parts.are_places.Given as goal

abbrev pub invariant-loop-place : goal.invariant-loop-place
invariant-loop-place l = are_places l.written l.least (drop l.place-index l.places) ≡ are_places l.written 0 l.places
