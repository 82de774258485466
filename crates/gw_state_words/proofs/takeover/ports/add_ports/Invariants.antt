use Rattle.std.proofs.Common.{◌≡◌, ◌+◌, ◌++◌, drop}
use Rattle.gw_state_words.specs.takeover.Findings.{port_findings}
use Rattle.gw_state_words.proofs.takeover.ports.add_ports.Given as goal

abbrev pub invariant-loop-place : goal.invariant-loop-place
invariant-loop-place l =
    l.found.items ++ port_findings (1 + l.place) (drop l.place l.ports) l.saved
    ≡ l.fn.found.items ++ port_findings 1 l.ports l.saved
