-- What the definitions of a history mean, in plain words.
use Rattle.std.specs.Prelude.{◌≡◌, ◌↔◌, ℕ, ◌<◌, Bool, false, not, ◌&&◌, if◌then◌else◌, List, [], ◌∷◌, ◌++◌, length}
use Rattle.std.specs.Prelude.{Some, IsTrue, IsFalse}
use Rattle.std.specs.List.{list_any, IsDistinct, AllByRecursion}
use Rattle.std.specs.Map.{lookup}
use Rattle.gw_addr.specs.declared.bip.BipAddr.{BipAddr}
use Rattle.gw_tables.specs.bdt_fdt.Registrations.{same}
use Rattle.gw_tables.specs.bdt_fdt.History.{Act, Register, Delete, Tick, History, Grant, last_grant, registration_after}
use Rattle.gw_tables.specs.bdt_fdt.History.{is_registered, order_after, ticks_in, table_after}

-- two addresses are one exactly if all six octets are
abbrev pub SameIsEqual : Type 0
SameIsEqual = (a b : BipAddr) → (IsTrue (same a b)) ↔ (a ≡ b)

-- an act is a registration or a deletion of an address
abbrev pub is_about : BipAddr → Act → Bool
is_about address (Register other time_to_live) = same address other
is_about address (Delete other) = same address other
is_about address Tick = false

-- the last granted registration of an address: none that is newer is about it, nor is a deletion,
-- and so many ticks came since
pub record IsLastGrant (history : History) (address : BipAddr) (grant : Grant) : Type 0 where
  pub newer : History
  pub older : History
  pub whole : history ≡ newer ++ Register address grant.time_to_live ∷ older
  pub since : AllByRecursion (λ act. IsFalse (is_about address act)) newer
  pub ago : grant.ago ≡ ticks_in newer

-- The last grant that is found is the last one, and no other is.
abbrev pub LastGrantIsFound : Type 0
LastGrantIsFound = (h : History) (address : BipAddr) (grant : Grant) →
    (last_grant h address ≡ Some grant) ↔ IsLastGrant h address grant

-- No two registrations are of one address.
abbrev pub EachStandsOnce : Type 0
EachStandsOnce = (h : History) → IsDistinct same (order_after h)

-- An address is in the order exactly if it is registered.
abbrev pub RegisteredStand : Type 0
RegisteredStand = (h : History) (address : BipAddr) →
    list_any (same address) (order_after h) ≡ is_registered h address

-- The table has each address with its registration.
abbrev pub TableHoldsRegistrations : Type 0
TableHoldsRegistrations = (h : History) (address : BipAddr) →
    lookup (same address) (table_after h).rows ≡ registration_after h address

-- how many acts came before the registration that began the unbroken time of an address's being
-- registered
abbrev pub began_after : History → BipAddr → ℕ
began_after [] address = 0
began_after (Register other time_to_live ∷ h) address =
    if same address other && not (is_registered h address) then length h else began_after h address
began_after (Delete other ∷ h) address = began_after h address
began_after (Tick ∷ h) address = began_after h address

-- each address of a list began before those after it
abbrev pub BeganInTurn : History → List BipAddr → Type 0
BeganInTurn h [] = Unit {0}
BeganInTurn h (a ∷ later) =
    AllByRecursion (λ b. began_after h a < began_after h b) later × BeganInTurn h later

-- The order is that of the registrations that began the unbroken times.
abbrev pub OrderIsOfBeginnings : Type 0
OrderIsOfBeginnings = (h : History) → BeganInTurn h (order_after h)
