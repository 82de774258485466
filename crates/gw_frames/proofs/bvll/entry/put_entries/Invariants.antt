use Rattle.std.proofs.Common.{◌≡◌, ◌≤◌, ◌++◌, take}
use Rattle.std.specs.List.{flat_map, AllByRecursion}
use Rattle.std.specs.Vec.{vec_capacity}
use Rattle.gw_frames.proofs.bvll.entry.put_entries.Given as goal

abbrev pub invariant-loop-entry : goal.invariant-loop-entry
invariant-loop-entry g l =
    (l.out.items ≡ l.fn.out.items ++ flat_map g.E.Entry.encoding (take l.entry-index l.fn.entries))
    × (AllByRecursion g.E.Entry.IsEntry (take l.entry-index l.fn.entries))
    × (vec_capacity l.fn.out ≤ vec_capacity l.out)
