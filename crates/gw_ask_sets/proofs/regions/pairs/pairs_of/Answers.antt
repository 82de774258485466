use Rattle.gw_ask_sets.proofs.regions_lemmas.PairLaw.{are_pairs}
use Rattle.gw_ask_sets.proofs.regions.pairs.pairs_of.Goals as goal

pub returns-clause-pairs : goal.returns-clause-pairs
returns-clause-pairs c = are_pairs _ _ _ _ c.in_ok-pairs.ensures
