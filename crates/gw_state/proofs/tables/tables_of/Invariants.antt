use Rattle.std.proofs.Common.{◌≡◌, take}
use Rattle.gw_state.specs.Carried.{tables_carried}
use Rattle.gw_state.proofs.tables.tables_of.Given as goal

abbrev pub invariant-loop-port : goal.invariant-loop-port
invariant-loop-port l = l.tables.items ≡ tables_carried l.ticks (take l.port-index l.ports) l.saved
