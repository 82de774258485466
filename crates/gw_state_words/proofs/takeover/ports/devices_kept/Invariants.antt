use Rattle.std.proofs.Common.{◌≡◌, ◌≤◌, ◌*◌, take}
use Rattle.gw_state_words.specs.takeover.Findings.{devices_kept}
use Rattle.gw_state_words.proofs.takeover.ports.devices_kept.Given as goal

abbrev pub invariant-loop-port : goal.invariant-loop-port
invariant-loop-port l = (l.devices ≡ devices_kept (take l.port-index l.ports) l.saved) × (l.devices ≤ 128 * l.port-index)
