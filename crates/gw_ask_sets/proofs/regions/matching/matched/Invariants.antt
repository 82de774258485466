use Rattle.std.proofs.Common.{◌≡◌, ◌&&◌, take}
use Rattle.gw_rules.specs.Ask.{Ask}
use Rattle.gw_rules.specs.Rule.{matches}
use Rattle.gw_ask_sets.specs.regions.Regions.{lies_in_one}
use Rattle.gw_ask_sets.proofs.regions.matching.matched.Given as goal

abbrev pub invariant-loop-region : goal.invariant-loop-region
invariant-loop-region l = (ask : Ask) →
    lies_in_one l.out.items ask ≡ (lies_in_one (take l.region-index l.regions) ask && matches l.rule ask)
