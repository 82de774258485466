-- What was done to a disk in memory.
use Rattle.std.specs.Prelude.{◌≡◌, Bool, true, false, List, [], ◌∷◌, Some, None, string_bytes}
use Rattle.gw_system.specs.Disk.{Change, Changes, Created, Failed, FolderSynced, Removed, Renamed, Spoiled, Synced, Wrote}
use Rattle.gw_program_vectors.specs.declared.mem_disk.DiskDeed.{DiskDeed}
use Rattle.gw_program_vectors.specs.declared.mem_disk.DiskDeed.TheVariants as deed

abbrev pub change_of : DiskDeed → Change
change_of (deed.Created name access) = Created (string_bytes name) access
change_of (deed.Wrote name more) = Wrote (string_bytes name) more.items
change_of (deed.Synced name) = Synced (string_bytes name)
change_of (deed.FolderSynced name) = FolderSynced (string_bytes name)
change_of (deed.Renamed from to) = Renamed (string_bytes from) (string_bytes to)
change_of (deed.Removed name) = Removed (string_bytes name)
change_of (deed.Spoiled name text) = Spoiled (string_bytes name) text.items
change_of deed.Failed = Failed

-- the changes of these deeds after others, the newest first
abbrev pub changes_on : List Change → List DiskDeed → List Change
changes_on before [] = before
changes_on before (deed ∷ deeds) = changes_on (change_of deed ∷ before) deeds

-- what is known, unless some deed was forgotten
abbrev pub changes_of : Bool → List DiskDeed → Changes
changes_of true deeds = None
changes_of false deeds = Some (changes_on [] deeds)

-- one more change
abbrev pub IsNext : Change → (before after : List Change) → Type 0
IsNext change before after = after ≡ change ∷ before
