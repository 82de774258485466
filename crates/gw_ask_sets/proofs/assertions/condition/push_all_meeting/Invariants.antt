use Rattle.std.proofs.Common.{◌≡◌, ◌&&◌, ◌||◌, take}
use Rattle.gw_rules.specs.Ask.{Ask}
use Rattle.gw_ask_sets.specs.assertions.internal.Conditions.{is_met}
use Rattle.gw_ask_sets.specs.regions.Regions.{lies_in_one}
use Rattle.gw_ask_sets.proofs.assertions.condition.push_all_meeting.Given as goal

abbrev pub invariant-loop-region : goal.invariant-loop-region
invariant-loop-region l = (ask : Ask) →
    lies_in_one l.out.items ask ≡ (lies_in_one l.fn.out.items ask || (lies_in_one (take l.region-index l.regions) ask && is_met l.condition ask))
