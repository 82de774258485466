use Rattle.std.proofs.Common.{◌≡◌, ◌&&◌, ◌||◌, length}
use Rattle.std.specs.Prelude.{not}
use Rattle.gw_rules.specs.Ask.{Ask}
use Rattle.gw_rules.specs.Rule.{matches}
use Rattle.gw_ask_sets.specs.regions.Regions.{lies_in_one}
use Rattle.gw_ask_sets.proofs.assertions.asserted.outside.Given as goal

abbrev pub invariant-loop-region : goal.invariant-loop-region
invariant-loop-region l = (ask : Ask) →
    (lies_in_one l.out.items ask || (lies_in_one l.rest.items ask && not (matches l.rule ask)))
    ≡ (lies_in_one l.fn.regions.items ask && not (matches l.rule ask))

-- each turn takes one up
abbrev pub decreases-loop-region : goal.decreases-loop-region
decreases-loop-region l = length l.rest.items
