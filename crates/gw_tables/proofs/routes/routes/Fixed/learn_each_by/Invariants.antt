use Rattle.std.proofs.Common.{◌≡◌, ◌≤◌, drop}
use Rattle.std.specs.Map.{keys_of}
use Rattle.indexmap.specs.IndexMap.{spare}
use Rattle.gw_tables.specs.routes.Table.{growth, learned_by}
use Rattle.gw_tables.specs.routes.internal.Fixed.{IsWithinLimit, table_with}
use Rattle.gw_tables.proofs.routes.routes.Fixed.learn_each_by.Given as goal

-- what is left gives the table that all give, and there is room for it
abbrev pub invariant-loop-net : goal.invariant-loop-net
invariant-loop-net l =
    let left = drop l.net-index l.learnings in
    record {
      limit : IsWithinLimit (table_with l.self l.learned);
      room : growth (table_with l.self l.learned) (keys_of left) ≤ spare l.learned;
      rows : learned_by (table_with l.self l.learned) left
          ≡ learned_by (table_with l.self l.fn.learned) l.learnings;
    }
