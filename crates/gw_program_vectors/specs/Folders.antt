-- A folder in memory: which file has which name.
use Rattle.std.specs.Prelude.{◌≡◌, ℕ, List, [], ◌∷◌, Option, Some, None, Result, OnErr, OnOk, if◌then◌else◌, option_map, string_bytes}
use Rattle.gw_system.specs.Disk.{is_name}
use Rattle.gw_wire.specs.declared.store.StoreFault.{StoreFault}
use Rattle.gw_program_vectors.specs.declared.mem_folder.NameEntry.{NameEntry}

-- the octets that the file of a name has by these entries, the newest first, if there is one
abbrev pub shown_by : List NameEntry → List ℕ → Option (List ℕ)
shown_by [] name = None
shown_by (entry ∷ entries) name =
    if is_name (string_bytes entry.name) name then option_map (λ octets. octets.items) entry.octets else shown_by entries name

-- The file of a name was replaced by these octets; or that failed, and each name has what it had.
pub record IsPut (name octets : List ℕ) (result : Result (Unit {0}) StoreFault) (before after : List NameEntry) : Type 0 where
  pub done : OnOk result (shown_by after name ≡ Some octets)
  pub failed : OnErr result (after ≡ before)
