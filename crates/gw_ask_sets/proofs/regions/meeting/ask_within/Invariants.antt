use Rattle.std.proofs.Common.{◌≡◌, ◌&&◌, false, take}
use Rattle.gw_rules.specs.Ask.{Ask}
use Rattle.gw_ask_sets.specs.regions.Regions.{lies, lies_in_one}
use Rattle.gw_ask_sets.proofs.regions.meeting.ask_within.Given as goal

abbrev pub invariant-loop-shape : goal.invariant-loop-shape
invariant-loop-shape l = (ask : Ask) → (lies l.region ask && lies_in_one (take l.shape-index l.shapes) ask) ≡ false
