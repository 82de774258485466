use Rattle.std.proofs.Common.{◌≡◌, ◌||◌, take}
use Rattle.gw_rules.specs.Ask.{Ask}
use Rattle.gw_ask_sets.specs.regions.Pairs.{AreTried, cells, findings}
use Rattle.gw_ask_sets.specs.regions.Unmatched.{is_matched}
use Rattle.gw_ask_sets.proofs.regions.pairs.try_row.Given as goal

abbrev pub invariant-loop-other : goal.invariant-loop-other
invariant-loop-other l = record {
  tried : AreTried l.policies.shapes.now l.policies.old.now l.policies.new.now (cells l.policies.new.now l.says l.place l.other)
      (findings l.fn.pairs.found.items l.fn.pairs.given_up.items l.fn.pairs.steps)
      (findings l.pairs.found.items l.pairs.given_up.items l.pairs.steps);
  in_front : (ask : Ask) → is_matched l.front.items ask
      ≡ (is_matched (take l.place l.policies.old.now) ask || is_matched (take l.other l.policies.new.now) ask);
}
