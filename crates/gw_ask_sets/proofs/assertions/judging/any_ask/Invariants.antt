use Rattle.std.proofs.Common.{◌≡◌, false, take}
use Rattle.gw_rules.specs.Ask.{Ask}
use Rattle.gw_ask_sets.specs.regions.Regions.{lies_in_one}
use Rattle.gw_ask_sets.proofs.assertions.judging.any_ask.Given as goal

abbrev pub invariant-loop-region : goal.invariant-loop-region
invariant-loop-region l = (ask : Ask) → lies_in_one (take l.region-index l.regions) ask ≡ false
