use Rattle.gw_state_text.proofs.LineLemmas.{route_found}
use Rattle.gw_state_text.proofs.tables.RouteLinesBlock.read.Goals as goal

pub returns-clause-found : goal.returns-clause-found
returns-clause-found c =
    route_found (c.in-Some.read.0, c.in-Some.read.1) c.args.text.now c.in-Some.read.2.now c.in-Some.ensures.found
