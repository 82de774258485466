use Rattle.std.proofs.Common.{◌≡◌, drop}
use Rattle.gw_tables.specs.priority.Commandable.{first_or, present}
use Rattle.gw_tables.proofs.priority.array.PriorityArray.present.Given as goal

-- the slots that are left have the first value too
abbrev pub invariant-loop-slot : goal.invariant-loop-slot
invariant-loop-slot g l = first_or l.self.default (drop l.slot-index l.slot-items) ≡ present l.self
