use Rattle.std.proofs.Common.{◌≡◌, [], ◌++◌}
use Rattle.gw_tables.specs.routes.Table.{routed_but}
use Rattle.gw_tables.proofs.routes.routes.push_routed.Given as goal

abbrev pub invariant-loop-net : goal.invariant-loop-net
invariant-loop-net l = record {
  added : l.nets.items ++ routed_but l.port l.net-iterator
      ≡ l.fn.nets.items ++ routed_but l.port l.routes.entries;
  none : routed_but l.port l.routes.entries ≡ [] → routed_but l.port l.net-iterator ≡ [];
}
