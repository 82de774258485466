-- How registrations are kept: by the tick with which each ends, and by a tick before which none does.
use Rattle.std.specs.Prelude.{ℕ, ◌+◌, ◌-◌, ◌^◌, ◌≤◌, Bool, nat_lt, List, length, map, IsTrue}
use Rattle.std.specs.List.{AllByRecursion, IsDistinct}
use Rattle.std.specs.Map.{keys_of}
use Rattle.gw_addr.specs.declared.bip.BipAddr.{BipAddr}
use Rattle.gw_tables.specs.declared.bdt_fdt.leases.Lease.{Lease}
use Rattle.gw_tables.specs.declared.bdt_fdt.kept.KeptDevice.{KeptDevice}
use Rattle.gw_tables.specs.declared.bdt_fdt.fdt.TheConstants.{GRACE, MAX_REGISTRATIONS}
use Rattle.gw_tables.specs.bdt_fdt.Registrations.{same, Registration, Registrations}

-- addresses, each with its lease, in order
abbrev pub LeaseList : Type 0
LeaseList = List (BipAddr × Lease)

-- a lease, so many ticks from the start on
abbrev pub row_at : ℕ → BipAddr × Lease → BipAddr × Registration
row_at ticks e = (e.0, record { time_to_live = e.1.time_to_live; left = e.1.deadline - ticks })

-- the table that leases are after so many ticks
abbrev pub table_at : ℕ → LeaseList → Registrations
table_at ticks leases = record { ticks = ticks; rows = map (row_at ticks) leases }

-- a lease doesn't end with a tick, or before it
abbrev pub holds_at : ℕ → BipAddr × Lease → Bool
holds_at ticks e = nat_lt ticks e.1.deadline

-- a lease has no more ticks to come than its time to live and the grace
abbrev pub is_granted : ℕ → BipAddr × Lease → Type 0
is_granted ticks e = e.1.deadline ≤ ticks + e.1.time_to_live + GRACE

-- what is kept of leases, so many ticks from the start on
pub record AreKept (ticks : ℕ) (leases : LeaseList) : Type 0 where
  pub few : length leases ≤ MAX_REGISTRATIONS
  pub below : ticks ≤ 2 ^ 63
  pub hold : AllByRecursion (λ e. IsTrue (holds_at ticks e)) leases
  pub granted : AllByRecursion (is_granted ticks) leases

-- an address with the lease of a device that was kept after so many ticks
abbrev pub lease_kept : ℕ → KeptDevice → BipAddr × Lease
lease_kept ticks d = (d.address, record { time_to_live = d.time_to_live; deadline = ticks + d.left })

-- a lease ends with a tick or after it
abbrev pub ends_from : ℕ → BipAddr × Lease → Type 0
ends_from first e = first ≤ e.1.deadline

-- what is kept of leases and a tick: none of them ends before it, and no address has two
pub record AreFrom (first : ℕ) (leases : LeaseList) : Type 0 where
  pub later : AllByRecursion (ends_from first) leases
  pub once : IsDistinct same (keys_of leases)
