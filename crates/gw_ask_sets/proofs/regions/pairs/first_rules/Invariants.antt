use Rattle.std.proofs.Common.{◌≡◌, take}
use Rattle.gw_rules.specs.Ask.{Ask}
use Rattle.gw_ask_sets.specs.regions.Unmatched.{is_matched}
use Rattle.gw_ask_sets.proofs.regions.pairs.first_rules.Given as goal

abbrev pub invariant-loop-rule : goal.invariant-loop-rule
invariant-loop-rule l = (ask : Ask) → is_matched l.front.items ask ≡ is_matched (take l.rule-index (take l.count l.rules)) ask
