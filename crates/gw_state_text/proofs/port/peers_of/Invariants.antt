use Rattle.std.proofs.Common.{◌≡◌, take}
use Rattle.gw_state_text.proofs.port.peers_of.Given as goal

abbrev pub invariant-loop-entry : goal.invariant-loop-entry
invariant-loop-entry l = l.peers ≡ take l.entry-index l.entries
