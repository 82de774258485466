-- The foreign devices of a port and their registrations (Annex J.5).
use Rattle.std.specs.Prelude.{ℕ, ◌+◌, ◌-◌, Bool, min, nat_eq, nat_lt, ◌&&◌, ◌||◌, if◌then◌else◌, List, [], length}
use Rattle.std.specs.Prelude.{filter_map, Option, Some, None, is_some}
use Rattle.std.specs.Cmp.Lexicographic.{pointwise}
use Rattle.std.specs.Map.{lookup, remove_entry}
use Rattle.gw_addr.specs.declared.bip.BipAddr.{BipAddr}
use Rattle.gw_addr.specs.declared.entry.FdtEntry.{FdtEntry}
use Rattle.indexmap.specs.IndexMap.{insert_entry}
use Rattle.gw_tables.specs.declared.bdt_fdt.fdt.TheConstants.{GRACE, MAX_REGISTRATIONS, MAX_REMAINING}

-- two addresses are one: their four octets and their ports are equal
abbrev pub same : BipAddr → BipAddr → Bool
same a b = pointwise nat_eq a.ip b.ip && nat_eq a.udp b.udp

-- a registration: its time to live, and how many ticks are to come until it is gone, those of the
-- grace among them
pub record Registration : Type 0 where
  pub time_to_live : ℕ
  pub left : ℕ

-- foreign devices, each with its registration
abbrev pub Registered : Type 0
Registered = List (BipAddr × Registration)

-- a foreign device table: how many ticks have passed, and the foreign devices in the order in which
-- their unbroken times of being registered began
pub record Registrations : Type 0 where
  pub ticks : ℕ
  pub rows : Registered

-- no tick has passed, and no foreign device is registered
abbrev pub no_registration : Registrations
no_registration = record { ticks = 0; rows = [] }

-- the table once nobody is registered any more
abbrev pub emptied : Registrations → Registrations
emptied t = record t { rows = [] }

-- an address is registered
abbrev pub contains : Registrations → BipAddr → Bool
contains t address = is_some (lookup (same address) t.rows)

-- there is room for an address: it is registered, or fewer than 128 others are
abbrev pub has_room : Registrations → BipAddr → Bool
has_room t address = contains t address || nat_lt (length t.rows) MAX_REGISTRATIONS

-- a registration as it is granted: its time to live and the grace are to come
abbrev pub granted : ℕ → Registration
granted time_to_live = record { time_to_live = time_to_live; left = time_to_live + GRACE }

-- once a registration was granted: who was registered keeps its place, and another goes last
abbrev pub with_registration : Registrations → BipAddr → ℕ → Registrations
with_registration t address time_to_live =
    record t { rows = insert_entry same t.rows address (granted time_to_live) }

-- once an address was deleted
abbrev pub without : Registrations → BipAddr → Registrations
without t address = record t { rows = remove_entry (same address) t.rows }

-- a registration with one tick less to come
abbrev pub with_less : Registration → Registration
with_less r = record { time_to_live = r.time_to_live; left = r.left - 1 }

-- a row one tick later: it is gone if that was the last tick to come
abbrev pub row_later : BipAddr × Registration → Option (BipAddr × Registration)
row_later row = if nat_lt 1 row.1.left then Some (row.0, with_less row.1) else None

-- one tick later
abbrev pub with_tick : Registrations → Registrations
with_tick t = record { ticks = t.ticks + 1; rows = filter_map row_later t.rows }

-- a row as it is shown: what remains as at most 65535
abbrev pub shown : BipAddr × Registration → FdtEntry
shown row = record {
  address = row.0;
  time_to_live = row.1.time_to_live;
  remaining = min row.1.left MAX_REMAINING;
}
