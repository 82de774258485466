-- Lists of table entries, lent as their octets.
use Rattle.std.specs.Prelude.{ℕ, List}
use Rattle.gw_frames.specs.declared.bvll.entries.Entries.{Entries}
use Rattle.gw_frames.specs.declared.bvll.entries.EntryIter.{EntryIter}
use Rattle.gw_frames.specs.bvll.Tens.{entries_at}

-- the entries that are lent
abbrev pub lent : {E : Type 0} → (List ℕ → E) → Entries E → List E
lent entry_of entries = entries_at entry_of entries.octets.now

-- the entries that are still to come
abbrev pub left : {E : Type 0} → (List ℕ → E) → EntryIter E → List E
left entry_of entries = entries_at entry_of entries.octets.now
