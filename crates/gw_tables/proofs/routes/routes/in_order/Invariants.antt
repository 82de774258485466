use Rattle.std.proofs.Common.{◌≡◌, [], take, nat_eq}
use Rattle.indexmap.specs.IndexMap.{insert_all}
use Rattle.gw_tables.proofs.routes.routes.in_order.Given as goal

abbrev pub invariant-loop-net : goal.invariant-loop-net
invariant-loop-net l = l.map.entries ≡ insert_all nat_eq [] (take l.net-index l.routes)
