-- What doesn't last changes neither tables of peers nor the device.
use Rattle.std.proofs.Common.{◌≡◌, ap, refl, ℕ, zero, suc, ◌-◌, Bool, true, false, true≢false, List, [], ◌∷◌, map, if◌then◌else◌, Option, Some, None, is_some}
use Rattle.std.specs.Prelude.{◌==◌}
use Rattle.std.proofs.lemmas.Bool.{or_parts}
use Rattle.gw_tables.specs.bdt_fdt.Registrations.{Registrations}
use Rattle.gw_objects.specs.Objects.{Database}
use Rattle.gw_objects.specs.Write.{Write}
use Rattle.gw_relay.specs.State.{Move, Relay, changed_at, changed_of, deleted, port_later, moved, registered}
use Rattle.gw_relay.specs.State as move
use Rattle.gw_relay.specs.declared.change.Change.TheVariants.{Entries, Registration, Deletion, Learnings}
use Rattle.gw_relay.specs.declared.port.PortState.{PortState}
use Rattle.gw_core.specs.Effects.{change_at, changed, move_at}
use Rattle.gw_core.specs.History.{next}
use Rattle.gw_core.specs.Lasting.{lasting_move, lasts}
use Rattle.gw_state_laws.specs.continuity.Laws.{OnlyLastingChanges, entries_of}

abbrev with_fdt : (Registrations → Registrations) → PortState → PortState
with_fdt f state = record state { fdt = f state.fdt }

at_keeps : (f : Registrations → Registrations) (place : ℕ) (ports : List PortState) → entries_of (changed_at place (with_fdt f) ports) ≡ entries_of ports
at_keeps f place [] = refl
at_keeps f zero (state ∷ ports) = refl
at_keeps f (suc place) (state ∷ ports) = ap (λ rest. state.bdt ∷ rest) (at_keeps f place ports)

of_keeps : (f : Registrations → Registrations) (number : ℕ) (ports : List PortState) → entries_of (changed_of number (with_fdt f) ports) ≡ entries_of ports
of_keeps f number ports = by (number == 0)
  where
    by : (b : Bool) → entries_of (if b then ports else changed_at (number - 1) (with_fdt f) ports) ≡ entries_of ports
    by true = refl
    by false = at_keeps f (number - 1) ports

later_keeps : (ports : List PortState) → entries_of (map port_later ports) ≡ entries_of ports
later_keeps [] = refl
later_keeps (state ∷ ports) = ap (λ rest. state.bdt ∷ rest) (later_keeps ports)

moved_keeps : (m : Option Move) (relay : Relay) → lasting_move m ≡ false → entries_of (moved m relay).ports ≡ entries_of relay.ports
moved_keeps None relay e = refl
moved_keeps (Some (move.Commit (Entries port entries))) relay e = absurd (true≢false e)
moved_keeps (Some (move.Commit (Registration port address time_to_live))) relay e = of_keeps (registered address time_to_live) port relay.ports
moved_keeps (Some (move.Commit (Deletion port address))) relay e = of_keeps (deleted address) port relay.ports
moved_keeps (Some (move.Commit (Learnings port router networks))) relay e = refl
moved_keeps (Some move.Tick) relay e = later_keeps relay.ports

changed_keeps : (granted : Option Write) (d : Database) → is_some granted ≡ false → changed granted d ≡ d
changed_keeps None d e = refl
changed_keeps (Some write) d e = absurd (true≢false e)

pub only_lasting_changes : OnlyLastingChanges
unfolding lasts next
only_lasting_changes w e still =
    let parts = or_parts (lasting_move (move_at w e)) (is_some (change_at w e)) still in
    (moved_keeps (move_at w e) w.relay parts.0, changed_keeps (change_at w e) w.device parts.1)
