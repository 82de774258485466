use Rattle.std.proofs.Common.{◌≡◌, ◌&&◌, take}
use Rattle.gw_rules.specs.Ask.{Ask}
use Rattle.gw_ask_sets.specs.assertions.internal.Conditions.{is_one_met}
use Rattle.gw_ask_sets.specs.regions.Regions.{lies_in_one}
use Rattle.gw_ask_sets.proofs.assertions.condition.meeting_one.Given as goal

abbrev pub invariant-loop-condition : goal.invariant-loop-condition
invariant-loop-condition l = (ask : Ask) →
    lies_in_one l.out.items ask ≡ (lies_in_one l.regions ask && is_one_met (take l.condition-index l.conditions) ask)
