use Rattle.gw_relay.proofs.Claims.{routes_are_kept, table_asks_read_nothing, tables_are_kept}
use Rattle.gw_relay.proofs.laws.changes.Goals as goal

pub returns-clause-tables : goal.returns-clause-tables
returns-clause-tables c = tables_are_kept

pub returns-clause-asks : goal.returns-clause-asks
returns-clause-asks c = table_asks_read_nothing

pub returns-clause-routes : goal.returns-clause-routes
returns-clause-routes c = routes_are_kept
