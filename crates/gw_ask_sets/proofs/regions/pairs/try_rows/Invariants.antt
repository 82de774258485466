use Rattle.gw_ask_sets.specs.regions.Pairs.{AreTried, all_cells, findings}
use Rattle.gw_ask_sets.proofs.regions.pairs.try_rows.Given as goal

abbrev pub invariant-loop-place : goal.invariant-loop-place
invariant-loop-place l =
    AreTried l.policies.shapes.now l.policies.old.now l.policies.new.now (all_cells l.policies.old.now l.policies.new.now l.says l.place)
    (findings l.fn.pairs.found.items l.fn.pairs.given_up.items l.fn.pairs.steps)
    (findings l.pairs.found.items l.pairs.given_up.items l.pairs.steps)
