-- Histories of the ports' tables.
use Rattle.std.proofs.Common.{◌≡◌, ◌∙◌, ap, ap₂, refl, ℕ, zero, suc, ◌+◌, ◌-◌, Bool, true, false, List, [], ◌∷◌, map}
use Rattle.std.specs.Prelude.{◌==◌, if◌then◌else◌}
use Rattle.gw_addr.specs.declared.bip.BipAddr.{BipAddr}
use Rattle.gw_addr.specs.declared.entry.BdtEntry.{BdtEntry}
use Rattle.gw_tables.specs.bdt_fdt.History.{Act, Register, Delete, order_after, table_after, ticks_in}
use Rattle.gw_tables.specs.bdt_fdt.Registrations.{Registrations, contains, has_room, no_registration, with_registration, without}
use Rattle.gw_tables.proofs.bdt_fdt_lemmas.Order.{table_deleted, table_later, table_registered}
use Rattle.gw_relay.specs.History.{Acts, acts_after, acts_later, all_after, link_after, with_act}
use Rattle.gw_relay.specs.Initial.{first_peers, port_state}
use Rattle.gw_relay.specs.Laws.{ChangesExtendHistories, ConfiguredLinksStand, TicksExtendHistories}
use Rattle.gw_relay.specs.State.{changed_at, changed_of, deleted, port_later, ports_after, registered}
use Rattle.gw_relay.specs.declared.change.Change.{Change}
use Rattle.gw_relay.specs.declared.change.Change.TheVariants.{Entries, Registration, Deletion, Learnings}
use Rattle.gw_relay.specs.declared.port.PortState.{PortState}
use Rattle.gw_relay.specs.declared.port.Port.{Port}

-- a change of a state is one of its acts
Agree : (PortState → PortState) → (Acts → Acts) → Type 0
Agree f g = (port : Port) (acts : Acts) → f (link_after port acts) ≡ link_after port (g acts)

at_agree : (f : PortState → PortState) (g : Acts → Acts) → Agree f g → (i : ℕ) (ports : List Port) (acts : List Acts)
    → changed_at i f (all_after ports acts) ≡ all_after ports (changed_at i g acts)
unfolding Agree
at_agree f g agree i [] acts = refl
at_agree f g agree i (port ∷ ports) [] = refl
at_agree f g agree zero (port ∷ ports) (first ∷ acts) = ap (λ (state : PortState). state ∷ all_after ports acts) (agree port first)
at_agree f g agree (suc i) (port ∷ ports) (first ∷ acts) = ap (λ (states : List PortState). link_after port first ∷ states)
    (at_agree f g agree i ports acts)

either_agree : (b : Bool) (ports : List Port) (acts more : List Acts) (states : List PortState) → states ≡ all_after ports more
    → (if b then all_after ports acts else states) ≡ all_after ports (if b then acts else more)
either_agree true ports acts more states e = refl
either_agree false ports acts more states e = e

of_agree : (f : PortState → PortState) (g : Acts → Acts) → Agree f g → (number : ℕ) (ports : List Port) (acts : List Acts)
    → changed_of number f (all_after ports acts) ≡ all_after ports (changed_of number g acts)
of_agree f g agree number ports acts =
    either_agree (number == 0) ports acts (changed_at (number - 1) g acts) (changed_at (number - 1) f (all_after ports acts))
    (at_agree f g agree (number - 1) ports acts)

-- a granted act
either_act : (b : Bool) (port : Port) (acts : Acts) (act : Act) (t : Registrations) → t ≡ table_after (act ∷ acts.history)
    → ◌≡◌ {A = PortState} (record { port = port; stations = acts.stations; bdt = acts.entries; fdt = if b then t else table_after acts.history })
    (link_after port (with_act b act acts))
either_act true port acts act t e = ap (λ (fdt : Registrations). record { port = port; stations = acts.stations; bdt = acts.entries; fdt = fdt }) e
either_act false port acts act t e = refl

registered_agree : (address : BipAddr) (time_to_live : ℕ)
    → Agree (λ state. record state { fdt = registered address time_to_live state.fdt })
    (λ acts. with_act (has_room (table_after acts.history) address) (Register address time_to_live) acts)
unfolding Agree
registered_agree address time_to_live port acts =
    either_act (has_room (table_after acts.history) address) port acts (Register address time_to_live)
    (with_registration (table_after acts.history) address time_to_live) (table_registered acts.history address time_to_live)

deleted_agree : (address : BipAddr)
    → Agree (λ state. record state { fdt = deleted address state.fdt })
    (λ acts. with_act (contains (table_after acts.history) address) (Delete address) acts)
unfolding Agree
deleted_agree address port acts =
    either_act (contains (table_after acts.history) address) port acts (Delete address)
    (without (table_after acts.history) address) (table_deleted acts.history address)

entries_agree : (bdt : List BdtEntry) → Agree (λ state. record state { bdt = bdt }) (λ acts. record acts { entries = bdt })
unfolding Agree
entries_agree bdt port acts = refl

change_extends : (change : Change) (ports : List Port) (acts : List Acts)
    → ports_after change (all_after ports acts) ≡ all_after ports (acts_after change acts)
change_extends (Entries port bdt) ports acts = of_agree (λ state. record state { bdt = bdt }) (λ a. record a { entries = bdt })
    (entries_agree bdt) port ports acts
change_extends (Registration port address time_to_live) ports acts =
    of_agree (λ state. record state { fdt = registered address time_to_live state.fdt })
    (λ a. with_act (has_room (table_after a.history) address) (Register address time_to_live) a)
    (registered_agree address time_to_live) port ports acts
change_extends (Deletion port address) ports acts =
    of_agree (λ state. record state { fdt = deleted address state.fdt })
    (λ a. with_act (contains (table_after a.history) address) (Delete address) a) (deleted_agree address) port ports acts
change_extends (Learnings port next networks) ports acts = refl

pub changes_extend : ChangesExtendHistories
changes_extend change states ports acts stand = ap (ports_after change) stand ∙ change_extends change ports acts

tick_extends : (ports : List Port) (acts : List Acts) → map port_later (all_after ports acts) ≡ all_after ports (map acts_later acts)
tick_extends [] acts = refl
tick_extends (port ∷ ports) [] = refl
tick_extends (port ∷ ports) (first ∷ acts) =
    ap₂ (λ (fdt : Registrations) (states : List PortState). record { port = port; stations = first.stations; bdt = first.entries; fdt = fdt } ∷ states)
    (table_later first.history) (tick_extends ports acts)

pub ticks_extend : TicksExtendHistories
ticks_extend states ports acts stand = ap (map port_later) stand ∙ tick_extends ports acts

-- nobody is registered after no acts
none_registered : no_registration ≡ table_after []
unfolding table_after ticks_in order_after
none_registered = refl

pub configured_stand : ConfiguredLinksStand
configured_stand number [] = refl
configured_stand number (p ∷ ports) =
    ap₂ (λ (fdt : Registrations) (states : List PortState). record { port = (port_state number p).port; stations = p.stations; bdt = first_peers p; fdt = fdt } ∷ states)
    none_registered (configured_stand (number + 1) ports)
