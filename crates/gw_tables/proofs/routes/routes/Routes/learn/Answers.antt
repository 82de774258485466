use Rattle.std.proofs.Common.{rules}
use Rattle.gw_tables.proofs.routes_lemmas.Learning.{after_learning}
use Rattle.gw_tables.proofs.routes.routes.Routes.learn.Goals as goal

pub returns-clause-stands : goal.returns-clause-stands
returns-clause-stands c = λ direct configured h s. after_learning _ _ direct configured h _ _ (search rules) s
