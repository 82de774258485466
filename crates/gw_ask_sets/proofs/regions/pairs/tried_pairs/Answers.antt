use Rattle.std.proofs.Common.{◌+◌, [], List, false, length, subst, true}
use Rattle.gw_ask_sets.specs.regions.Pairs.{AreTried, all_cells, findings}
use Rattle.gw_ask_sets.specs.declared.regions.pairs.Pair.{Pair}
use Rattle.gw_ask_sets.specs.declared.regions.pairs.ShownPair.{ShownPair}
use Rattle.gw_ask_sets.proofs.regions_lemmas.PairLaw.{tried_join}
use Rattle.gw_ask_sets.proofs.regions.pairs.tried_pairs.Goals as goal

pub returns : goal.returns
returns c =
    let policies = c.args.policies.now in
    let shapes = policies.shapes.now in
    let old = policies.old.now in
    let new = policies.new.now in
    let one = c.try_rows.new.pairs in
    let two = c.try_rows-2.new.pairs in
    let between = findings one.found.items one.given_up.items one.steps in
    let after = findings two.found.items two.given_up.items two.steps in
    let allowing = all_cells old new true (length old + 1) in
    tried_join shapes old new allowing (all_cells old new false (length old + 1)) (findings [] [] 0) between after
    (subst (λ (xs : List ShownPair). AreTried shapes old new allowing (findings xs [] 0) between) c.new.ensures.items
    (subst (λ (ys : List Pair). AreTried shapes old new allowing (findings c.new.result.items ys 0) between) c.new-2.ensures.items c.in_ok-try_rows.ensures))
    c.in_ok-try_rows-2.ensures
