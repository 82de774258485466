-- The entries of a broadcast distribution table, and whom broadcasts go to by it (Annex J.4).
use Rattle.std.specs.Prelude.{ℕ, Bool, false, not, ◌||◌, nat_lt, List, [], ◌∷◌, length, filter, find}
use Rattle.std.specs.List.{list_any}
use Rattle.std.specs.Option.{option_map_or}
use Rattle.gw_addr.specs.declared.bip.BipAddr.{BipAddr}
use Rattle.gw_addr.specs.declared.entry.BdtEntry.{BdtEntry}
use Rattle.gw_tables.specs.declared.bdt_fdt.bdt.TheConstants.{MAX_ENTRIES}
use Rattle.gw_tables.specs.bdt_fdt.Registrations.{same}

-- an entry is that of an address: all six octets are equal
abbrev pub is_of : BipAddr → BdtEntry → Bool
is_of address entry = same address entry.address

-- some address is twice in the entries
abbrev pub has_twice : List BdtEntry → Bool
has_twice [] = false
has_twice (entry ∷ entries) = list_any (is_of entry.address) entries || has_twice entries

-- there are more entries than a table holds
abbrev pub are_too_many : List BdtEntry → Bool
are_too_many entries = nat_lt MAX_ENTRIES (length entries)

-- the entries but the own one
abbrev pub peers : BipAddr → List BdtEntry → List BdtEntry
peers own entries = filter (λ entry. not (is_of own entry)) entries

-- the mask of an own entry that is not there: all ones
abbrev pub all_ones : List ℕ
all_ones = 255 ∷ 255 ∷ 255 ∷ 255 ∷ []

-- the mask of the own entry, all ones if there is none
abbrev pub own_mask : BipAddr → List BdtEntry → List ℕ
own_mask own entries = option_map_or (λ entry. entry.mask) (find (is_of own) entries) all_ones
