-- A disk in memory remembers one deed more.
use Rattle.std.proofs.Common.{◌≡◌, ◌∙◌, ap, refl, Bool, true, false, List, [], ◌∷◌, ◌++◌}
use Rattle.gw_system.specs.Disk.{Change, Leads}
use Rattle.gw_program_vectors.specs.Deeds.{IsNext, change_of, changes_of, changes_on}
use Rattle.gw_program_vectors.specs.declared.mem_disk.DiskDeed.{DiskDeed}

newest : (before : List Change) (deeds : List DiskDeed) (deed : DiskDeed)
    → changes_on before (deeds ++ deed ∷ []) ≡ change_of deed ∷ changes_on before deeds
newest before [] deed = refl
newest before (d ∷ deeds) deed = newest (change_of d ∷ before) deeds deed

pub remembered : (forgot : Bool) (deeds later : List DiskDeed) (deed : DiskDeed) → later ≡ deeds ++ deed ∷ []
    → Leads (IsNext (change_of deed)) (changes_of forgot deeds) (changes_of forgot later)
remembered true deeds later deed e = refl
remembered false deeds later deed e = ap (λ (l : List DiskDeed). changes_on [] l) e ∙ newest [] deeds deed
