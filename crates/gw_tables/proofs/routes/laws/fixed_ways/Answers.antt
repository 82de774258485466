use Rattle.gw_tables.specs.routes.History.{learned_after}
use Rattle.gw_tables.proofs.routes_lemmas.Words.{fixed_ways_stay}
use Rattle.gw_tables.proofs.routes.laws.fixed_ways.Goals as goal

pub returns : goal.returns
returns c = λ direct configured h net. fixed_ways_stay direct configured (learned_after h) net
