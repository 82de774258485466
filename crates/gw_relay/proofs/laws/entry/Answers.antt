use Rattle.gw_relay.proofs.Entering.{entry_asks_read_nothing}
use Rattle.gw_relay.proofs.laws.entry.Goals as goal

pub returns-clause-reads : goal.returns-clause-reads
returns-clause-reads c = entry_asks_read_nothing
