use Rattle.gw_state_text.proofs.LineLemmas.{entry_found}
use Rattle.gw_state_text.proofs.tables.EntryLinesBlock.read.Goals as goal

pub returns-clause-found : goal.returns-clause-found
returns-clause-found c = entry_found _ c.in-Some.entry c.args.text.now c.in-Some.rest.now c.in-Some.ensures.found
