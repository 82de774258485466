use Rattle.std.proofs.Common.{◌≡◌, ◌+◌, ◌&&◌, drop}
use Rattle.std.specs.Prelude.{not}
use Rattle.gw_rules.specs.Ask.{Ask}
use Rattle.gw_ask_sets.specs.assertions.Asserted.{enters_home}
use Rattle.gw_ask_sets.specs.regions.Regions.{lies_in_one}
use Rattle.gw_ask_sets.proofs.assertions.asserted.without_all_enters.Given as goal

abbrev pub invariant-loop-place : goal.invariant-loop-place
invariant-loop-place l = (ask : Ask) →
    (lies_in_one l.rest.items ask && not (enters_home (1 + l.place) (drop l.place l.ports) ask))
    ≡ (lies_in_one l.fn.regions.items ask && not (enters_home 1 l.ports ask))
