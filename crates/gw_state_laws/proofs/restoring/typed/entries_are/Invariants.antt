use Rattle.std.proofs.Common.{take}
use Rattle.std.specs.List.{AllByRecursion}
use Rattle.gw_addr.specs.Entry.{IsBdtEntry}
use Rattle.gw_state_laws.proofs.restoring.typed.entries_are.Given as goal

abbrev pub invariant-loop-entry : goal.invariant-loop-entry
invariant-loop-entry l = AllByRecursion IsBdtEntry (take l.entry-index l.entries)
