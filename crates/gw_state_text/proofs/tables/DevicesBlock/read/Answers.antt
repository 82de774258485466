use Rattle.gw_state_text.proofs.LineLemmas.{device_found}
use Rattle.gw_state_text.proofs.tables.DevicesBlock.read.Goals as goal

pub returns-clause-found : goal.returns-clause-found
returns-clause-found c = device_found c.in-Some.device c.args.text.now c.in-Some.rest.now c.in-Some.ensures.found
