use Rattle.std.proofs.Common.{◌≡◌, map, take}
use Rattle.gw_json.specs.Check.{manager_value}
use Rattle.gw_json.specs.internal.View.{values_view}
use Rattle.gw_json.proofs.check.managers_value.Given as goal

abbrev pub invariant-loop-port : goal.invariant-loop-port
invariant-loop-port l = values_view l.managers.items ≡ map manager_value (take l.port-index l.fn.ports)
