use Rattle.std.proofs.Common.{◌≡◌, ◌≤◌, drop}
use Rattle.indexmap.specs.IndexMap.{spare}
use Rattle.gw_tables.specs.routes.Table.{growth, with_each}
use Rattle.gw_tables.specs.routes.internal.Fixed.{IsWithinLimit, table_with}
use Rattle.gw_tables.proofs.routes.routes.Fixed.learn_each.Given as goal

-- what is left gives the table that all give, and there is room for it
abbrev pub invariant-loop-net : goal.invariant-loop-net
invariant-loop-net l =
    let left = drop l.net-index l.nets in
    record {
      limit : IsWithinLimit (table_with l.self l.learned);
      room : growth (table_with l.self l.learned) left ≤ spare l.learned;
      rows : with_each (table_with l.self l.learned) left l.route
          ≡ with_each (table_with l.self l.fn.learned) l.nets l.route;
    }
