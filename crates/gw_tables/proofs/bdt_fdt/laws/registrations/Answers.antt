use Rattle.gw_tables.proofs.bdt_fdt_lemmas.Order.{once}
use Rattle.gw_tables.proofs.bdt_fdt_lemmas.Words.{registered_stand, table_holds, order_of_beginnings}
use Rattle.gw_tables.proofs.bdt_fdt.laws.registrations.Goals as goal

pub returns : goal.returns
returns c = record {
  once = once;
  stand = registered_stand;
  rows = table_holds;
  order = order_of_beginnings;
}
