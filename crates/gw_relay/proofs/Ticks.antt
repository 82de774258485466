-- The tables of all states see the same ticks.
use Rattle.std.proofs.Common.{◌≡◌, ◌∙◌, ap, refl, ℕ, zero, suc, ◌+◌, ◌-◌, Bool, true, false, List, [], ◌∷◌, map}
use Rattle.std.specs.Prelude.{◌==◌, if◌then◌else◌, is_some}
use Rattle.std.specs.List.{AllByRecursion}
use Rattle.gw_addr.specs.declared.bip.BipAddr.{BipAddr}
use Rattle.gw_addr.specs.declared.entry.BdtEntry.{BdtEntry}
use Rattle.gw_tables.specs.bdt_fdt.Registrations.{Registrations, contains, emptied, has_room, with_registration, without}
use Rattle.gw_configuration.specs.declared.port.Port.{Port as ConfiguredPort}
use Rattle.gw_tables.specs.declared.bdt_fdt.tables.PortTables.{PortTables}
use Rattle.gw_relay.specs.Initial.{port_states_from, port_states_with}
use Rattle.gw_relay.specs.State.{changed_at, changed_of, deleted, port_later, ports_after, registered}
use Rattle.gw_relay.specs.declared.change.Change.{Change}
use Rattle.gw_relay.specs.declared.change.Change.TheVariants.{Entries, Registration, Deletion, Learnings}
use Rattle.gw_relay.specs.declared.port.PortState.{PortState}
use Rattle.gw_relay.specs.internal.Ticks.{AreAlike}

pub initial_alike : (number : ℕ) (ports : List ConfiguredPort) → AreAlike 0 (port_states_from number ports)
initial_alike number [] = tt
initial_alike number (p ∷ ports) = (refl, initial_alike (number + 1) ports)

pub with_alike : (ticks number : ℕ) (ports : List ConfiguredPort) (tables : List PortTables)
    → AllByRecursion (λ t. t.fdt.ticks ≡ ticks) tables → AreAlike ticks (port_states_with number ports tables)
with_alike ticks number [] tables alike = tt
with_alike ticks number (p ∷ ports) [] alike = tt
with_alike ticks number (p ∷ ports) (t ∷ tables) alike =
    (by (is_some p.bbmd) ∙ alike.0, with_alike ticks (number + 1) ports tables alike.1)
  where
    by : (b : Bool) → (if b then emptied t.fdt else t.fdt).ticks ≡ t.fdt.ticks
    by true = refl
    by false = refl

pub later_alike : (ticks : ℕ) (states : List PortState) → AreAlike ticks states → AreAlike (ticks + 1) (map port_later states)
later_alike ticks [] alike = tt
later_alike ticks (state ∷ states) alike = (ap (λ (n : ℕ). n + 1) alike.0, later_alike ticks states alike.1)

-- a change of a state that leaves its ticks
KeepsTicks : (PortState → PortState) → Type 0
KeepsTicks f = (state : PortState) → (f state).fdt.ticks ≡ state.fdt.ticks

at_alike : (ticks : ℕ) (states : List PortState) (i : ℕ) (f : PortState → PortState) → KeepsTicks f → AreAlike ticks states
    → AreAlike ticks (changed_at i f states)
unfolding KeepsTicks
at_alike ticks [] i f keeps alike = tt
at_alike ticks (state ∷ states) zero f keeps alike = (keeps state ∙ alike.0, alike.1)
at_alike ticks (state ∷ states) (suc i) f keeps alike = (alike.0, at_alike ticks states i f keeps alike.1)

either_alike : (b : Bool) (ticks : ℕ) (xs ys : List PortState) → AreAlike ticks xs → AreAlike ticks ys → AreAlike ticks (if b then xs else ys)
either_alike true ticks xs ys x y = x
either_alike false ticks xs ys x y = y

of_alike : (ticks : ℕ) (states : List PortState) (number : ℕ) (f : PortState → PortState) → KeepsTicks f → AreAlike ticks states
    → AreAlike ticks (changed_of number f states)
of_alike ticks states number f keeps alike =
    either_alike (number == 0) ticks states (changed_at (number - 1) f states) alike (at_alike ticks states (number - 1) f keeps alike)

either_ticks : (b : Bool) (t u : Registrations) → u.ticks ≡ t.ticks → (if b then u else t).ticks ≡ t.ticks
either_ticks true t u e = e
either_ticks false t u e = refl

registered_keeps : (address : BipAddr) (time_to_live : ℕ)
    → KeepsTicks (λ state. record state { fdt = registered address time_to_live state.fdt })
unfolding KeepsTicks
registered_keeps address time_to_live state = either_ticks (has_room state.fdt address) state.fdt
    (with_registration state.fdt address time_to_live) refl

deleted_keeps : (address : BipAddr) → KeepsTicks (λ state. record state { fdt = deleted address state.fdt })
unfolding KeepsTicks
deleted_keeps address state = either_ticks (contains state.fdt address) state.fdt (without state.fdt address) refl

entries_keep : (bdt : List BdtEntry) → KeepsTicks (λ state. record state { bdt = bdt })
unfolding KeepsTicks
entries_keep bdt state = refl

pub after_alike : (change : Change) (ticks : ℕ) (states : List PortState) → AreAlike ticks states → AreAlike ticks (ports_after change states)
after_alike (Entries port bdt) ticks states alike = of_alike ticks states port (λ state. record state { bdt = bdt }) (entries_keep bdt) alike
after_alike (Registration port address time_to_live) ticks states alike =
    of_alike ticks states port (λ state. record state { fdt = registered address time_to_live state.fdt })
    (registered_keeps address time_to_live) alike
after_alike (Deletion port address) ticks states alike =
    of_alike ticks states port (λ state. record state { fdt = deleted address state.fdt }) (deleted_keeps address) alike
after_alike (Learnings port next networks) ticks states alike = alike
