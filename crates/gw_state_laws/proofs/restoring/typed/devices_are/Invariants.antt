use Rattle.std.proofs.Common.{take}
use Rattle.std.specs.List.{AllByRecursion}
use Rattle.gw_state_text.specs.Fit.{IsDevice}
use Rattle.gw_state_laws.proofs.restoring.typed.devices_are.Given as goal

abbrev pub invariant-loop-device : goal.invariant-loop-device
invariant-loop-device l = AllByRecursion IsDevice (take l.device-index l.devices)
