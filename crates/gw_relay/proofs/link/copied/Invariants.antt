use Rattle.std.proofs.Common.{◌≡◌, ◌++◌}
use Rattle.gw_addr.specs.Entry.{bdt_entry}
use Rattle.gw_frames.specs.bvll.Entries.{left, lent}
use Rattle.gw_relay.proofs.link.copied.Given as goal

-- what is copied and what is left are all entries
abbrev pub invariant-loop-entry : goal.invariant-loop-entry
invariant-loop-entry l = l.copy.items ++ left bdt_entry l.entry-iterator ≡ lent bdt_entry l.entries
