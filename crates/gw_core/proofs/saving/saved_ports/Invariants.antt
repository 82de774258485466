use Rattle.std.proofs.Common.{◌≡◌, ◌++◌, drop}
use Rattle.gw_core.specs.Resumed.{saved_ports}
use Rattle.gw_core.proofs.saving.saved_ports.Given as goal

-- what is saved and what is left are all ports
abbrev pub invariant-loop-place : goal.invariant-loop-place
invariant-loop-place l = l.saved.items ++ saved_ports (drop l.place l.ports) (drop l.place l.states) ≡ saved_ports l.ports l.states
