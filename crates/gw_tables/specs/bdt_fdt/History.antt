-- Who is registered after a history, which is the list of the registrations and deletions that were
-- granted and of the ticks that passed, newest first (Annex J.5).
use Rattle.std.specs.Prelude.{◌≡◌, ℕ, ◌+◌, ◌-◌, Bool, nat_lt, if◌then◌else◌, List, [], ◌∷◌, ◌++◌, filter, filter_map}
use Rattle.std.specs.Prelude.{Option, Some, None, is_some, option_map, option_and_then}
use Rattle.std.specs.List.{list_any}
use Rattle.gw_addr.specs.declared.bip.BipAddr.{BipAddr}
use Rattle.gw_tables.specs.declared.bdt_fdt.fdt.TheConstants.{GRACE}
use Rattle.gw_tables.specs.bdt_fdt.Registrations.{Registration, Registrations, same}

-- what happens to a table: an address is granted a registration with a time to live, or is deleted,
-- or a tick passes
pub data Act : Type 0 where
  Register : BipAddr → ℕ → Act
  Delete : BipAddr → Act
  Tick : Act

-- newest first
abbrev pub History : Type 0
History = List Act

-- a granted registration: its time to live, and how many ticks have passed since
pub record Grant : Type 0 where
  pub time_to_live : ℕ
  pub ago : ℕ

-- a grant of now
abbrev pub grant_now : ℕ → Grant
grant_now time_to_live = record { time_to_live = time_to_live; ago = 0 }

-- one tick longer ago
abbrev pub longer_ago : Grant → Grant
longer_ago grant = record { time_to_live = grant.time_to_live; ago = grant.ago + 1 }

-- the last granted registration of an address, if no deletion of it came since
abbrev pub last_grant : History → BipAddr → Option Grant
last_grant [] address = None
last_grant (Register other time_to_live ∷ h) address =
    if same address other then Some (grant_now time_to_live) else last_grant h address
last_grant (Delete other ∷ h) address = if same address other then None else last_grant h address
last_grant (Tick ∷ h) address = option_map longer_ago (last_grant h address)

-- the registration by a grant of this long ago
abbrev pub left_of : Grant → Registration
left_of grant = record {
  time_to_live = grant.time_to_live;
  left = grant.time_to_live + GRACE - grant.ago;
}

-- a grant holds while fewer ticks than its time to live and 30 have passed since it
abbrev pub registration_by : Grant → Option Registration
registration_by grant =
    if nat_lt grant.ago (grant.time_to_live + GRACE) then Some (left_of grant) else None

-- the registration of an address after a history, or none
abbrev pub registration_after : History → BipAddr → Option Registration
registration_after h address = option_and_then registration_by (last_grant h address)

-- an address is registered after a history
abbrev pub is_registered : History → BipAddr → Bool
is_registered h address = is_some (registration_after h address)

-- addresses with one more, which goes last unless it is among them
abbrev pub with_address : List BipAddr → BipAddr → List BipAddr
with_address addresses address =
    if list_any (same address) addresses then addresses else addresses ++ address ∷ []

-- who is registered after a history, in order: who begins to be registered goes last, and who still
-- is keeps the place
unfoldable pub order_after : History → List BipAddr
order_after [] = []
order_after (Register address time_to_live ∷ h) = with_address (order_after h) address
order_after (Delete address ∷ h) = filter (is_registered (Delete address ∷ h)) (order_after h)
order_after (Tick ∷ h) = filter (is_registered (Tick ∷ h)) (order_after h)

-- an address with its registration after a history, or none
abbrev pub row_after : History → BipAddr → Option (BipAddr × Registration)
row_after h address =
    option_map (λ registration. (address, registration)) (registration_after h address)

-- how many ticks a history has
unfoldable pub ticks_in : History → ℕ
ticks_in [] = 0
ticks_in (Register address time_to_live ∷ h) = ticks_in h
ticks_in (Delete address ∷ h) = ticks_in h
ticks_in (Tick ∷ h) = ticks_in h + 1

-- the table after a history
unfoldable pub table_after : History → Registrations
table_after h = record { ticks = ticks_in h; rows = filter_map (row_after h) (order_after h) }

-- a table is as a history leaves it
abbrev pub IsStateAfter : Registrations → History → Type 0
IsStateAfter t h = t ≡ table_after h
