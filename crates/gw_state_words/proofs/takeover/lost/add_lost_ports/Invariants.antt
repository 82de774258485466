use Rattle.std.proofs.Common.{◌≡◌, ◌++◌, drop}
use Rattle.gw_state_words.specs.takeover.Findings.{lost_ports}
use Rattle.gw_state_words.proofs.takeover.lost.add_lost_ports.Given as goal

abbrev pub invariant-loop-place : goal.invariant-loop-place
invariant-loop-place l =
    l.found.items ++ lost_ports l.ports l.saved l.place (drop l.place l.saved)
    ≡ l.fn.found.items ++ lost_ports l.ports l.saved 0 l.saved
