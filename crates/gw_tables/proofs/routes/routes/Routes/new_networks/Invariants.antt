use Rattle.std.proofs.Common.{◌≡◌, [], drop}
use Rattle.gw_tables.specs.routes.internal.News.{found_in}
use Rattle.gw_tables.proofs.routes.routes.Routes.new_networks.Given as goal

-- those that were found, and those among what is left, are all
abbrev pub invariant-loop-net : goal.invariant-loop-net
invariant-loop-net l = found_in l.self l.found.items (drop l.net-index l.nets) ≡ found_in l.self [] l.nets
