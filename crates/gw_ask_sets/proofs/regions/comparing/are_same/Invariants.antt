use Rattle.std.proofs.Common.{◌≡◌, take}
use Rattle.gw_rules.specs.Ask.{Ask}
use Rattle.gw_ask_sets.specs.regions.Deciding.{decided_by}
use Rattle.gw_ask_sets.proofs.regions.comparing.are_same.Given as goal

abbrev pub invariant-loop-index : goal.invariant-loop-index
invariant-loop-index l = (ask : Ask) →
    decided_by l.old (take l.index l.p.places.items) l.p.otherwise ask ≡ decided_by l.new (take l.index l.q.places.items) l.q.otherwise ask
