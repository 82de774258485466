-- The foreign devices of a table as they are kept while no gateway runs.
use Rattle.std.specs.Prelude.{ℕ, ◌+◌, Bool, false, not, nat_le, nat_lt, ◌&&◌, ◌||◌, List, [], ◌∷◌, length, map}
use Rattle.std.specs.List.{list_any, list_all}
use Rattle.gw_addr.specs.declared.bip.BipAddr.{BipAddr}
use Rattle.gw_tables.specs.declared.bdt_fdt.fdt.TheConstants.{GRACE, MAX_REGISTRATIONS}
use Rattle.gw_tables.specs.declared.bdt_fdt.kept.KeptDevice.{KeptDevice}
use Rattle.gw_tables.specs.bdt_fdt.Registrations.{Registration, Registrations, same}

-- a row as it is kept
abbrev pub kept : BipAddr × Registration → KeptDevice
kept row = record { address = row.0; time_to_live = row.1.time_to_live; left = row.1.left }

-- the row of a device that was kept
abbrev pub row_of : KeptDevice → BipAddr × Registration
row_of d = (d.address, record { time_to_live = d.time_to_live; left = d.left })

-- the table of devices that were kept after so many ticks
abbrev pub restored : ℕ → List KeptDevice → Registrations
restored ticks devices = record { ticks = ticks; rows = map row_of devices }

-- a device has a tick to come, and no more than it was granted: its time to live and the grace
abbrev pub is_due : KeptDevice → Bool
is_due d = nat_lt 0 d.left && nat_le d.left (d.time_to_live + GRACE)

-- a device has this address
abbrev pub is_of_device : BipAddr → KeptDevice → Bool
is_of_device address d = same address d.address

-- there are no more devices than a table holds
abbrev pub are_few : List KeptDevice → Bool
are_few ds = nat_le (length ds) MAX_REGISTRATIONS

-- two of the devices have one address
abbrev pub repeat_address : List KeptDevice → Bool
repeat_address [] = false
repeat_address (d ∷ ds) = list_any (is_of_device d.address) ds || repeat_address ds

-- a table can have these devices
abbrev pub are_restorable : List KeptDevice → Bool
are_restorable ds = are_few ds && (list_all is_due ds && not (repeat_address ds))
