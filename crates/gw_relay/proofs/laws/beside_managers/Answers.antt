use Rattle.gw_relay.proofs.NeighbourLemmas.{bare_at_first, bare_broadcasts, bare_resumed, learning_stays_bare, no_tables_beside, nothing_is_distributed, tables_stay_bare, ticks_stay_bare}
use Rattle.gw_relay.proofs.laws.beside_managers.Goals as goal

pub returns : goal.returns
returns c = record {
  tables = no_tables_beside;
  broadcasts = nothing_is_distributed;
  first = bare_at_first;
  resumed = bare_resumed;
  granted = tables_stay_bare;
  learned = learning_stays_bare;
  ticks = ticks_stay_bare;
  spread = bare_broadcasts;
}
