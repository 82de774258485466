use Rattle.std.proofs.Common.{◌≡◌, map, take}
use Rattle.gw_configuration.specs.Duplicates.{assertion_names}
use Rattle.gw_configuration.proofs.duplicates.second_assertion.Given as goal

abbrev pub invariant-loop-assertion : goal.invariant-loop-assertion
invariant-loop-assertion l = map (λ t. t.now) l.all.items ≡ assertion_names (take l.assertion-index l.assertions)
