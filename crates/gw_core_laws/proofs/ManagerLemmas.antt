-- What is received comes on one of the ports; and whether these are the broadcast managers of their subnets, and whether
-- anything is announced, stays.
use Rattle.std.proofs.Common.{◌≡◌, ◌∙◌, refl, sym, ap, ap₂, ℕ, zero, suc, ◌+◌, ◌-◌, Bool, true, false, not, ◌&&◌, List, [], ◌∷◌, map, Option, Some, None, Result, Ok, Err}
use Rattle.std.specs.Prelude.{◌==◌, if◌then◌else◌, slice_get}
use Rattle.std.specs.List.{list_all}
use Rattle.std.specs.Option.{option_map_or}
use Rattle.std.proofs.lemmas.Bool.{and_parts, not-true}
use Rattle.gw_addr.specs.declared.bip.BipAddr.{BipAddr}
use Rattle.gw_configuration.specs.Configuration.{Configuration}
use Rattle.gw_core.specs.declared.event.Counts.{Counts}
use Rattle.gw_frames.specs.bvll.Bvll.{Message as Frame}
use Rattle.gw_frames.specs.bvll.Reading.{bvll_at}
use Rattle.gw_frames.specs.declared.bvll.fault.BvllFault.{BvllFault}
use Rattle.gw_frames.specs.npdu.Npdu.{Fields}
use Rattle.gw_relay.specs.Cast.{accepts, is_unregistered}
use Rattle.gw_relay.specs.Initial.{initial}
use Rattle.gw_relay.specs.Message.{message_of}
use Rattle.gw_relay.specs.Plain.{are_managers, is_plain}
use Rattle.gw_relay.specs.State.{Move, Relay, changed_at, changed_of, deleted, is_manager, moved, moved_by, port_at, port_later, ports_after, registered}
use Rattle.gw_relay.specs.State as move
use Rattle.gw_relay.specs.declared.change.Change.{Change}
use Rattle.gw_relay.specs.declared.change.Change.TheVariants.{Deletion, Entries, Learnings, Registration}
use Rattle.gw_relay.specs.declared.port.Port.{Port}
use Rattle.gw_relay.specs.declared.port.PortState.{PortState}
use Rattle.gw_core.specs.History.{acts_of, state_after}
use Rattle.gw_core.specs.Receive.{Received, barred, comes_in, dropped, managed, manages, message, npdu_of, payload_of, receive_datagram, receive_frame, receive_npdu, receive_on, unregistered}
use Rattle.gw_core.specs.State.{State, device_network}
use Rattle.gw_core_laws.specs.FormatTwo.{received_before}
use Rattle.gw_script.specs.Event.{Event, Datagram, Tick}

-- ---- what holds of all that can come on a port holds of what is received there

pub record HoldsOn (P : Received → Type 0) (on : PortState) : Type 0 where
  pub managed_is : (from : BipAddr) (frame : Frame) → P (managed on from frame)
  pub strange_is : (from : BipAddr) (frame : Frame) (npdu : Fields) → P (unregistered (message_of on from frame npdu))
  pub message_is : (from : BipAddr) (frame : Frame) (npdu : Fields) → P (message (message_of on from frame npdu))

module _ (P : Received → Type 0) (none : P dropped) (states : List PortState) (device : ℕ) (on : PortState) (h : HoldsOn P on) where
  of_npdu : (from : BipAddr) (frame : Frame) (octets : List ℕ) → P (receive_npdu states device on from frame octets)
  of_npdu from frame octets = by (npdu_of states device octets) (is_unregistered on from frame)
    where
      by : (npdu : Option Fields) (b : Bool) → P (elim npdu [
        | Some npdu ↦ if b then unregistered (message_of on from frame npdu) else message (message_of on from frame npdu)
        | None ↦ dropped
      ])
      by None b = none
      by (Some npdu) true = h.strange_is from frame npdu
      by (Some npdu) false = h.message_is from frame npdu

  of_frame : (from : BipAddr) (frame : Frame) → P (receive_frame states device on from frame)
  of_frame from frame = by (manages frame) (accepts on from frame) (payload_of frame)
    where
      by : (manages heard : Bool) (payload : Option (List ℕ)) → P (if manages then managed on from frame
          else if not heard then dropped
          else (elim payload [
            | Some octets ↦ receive_npdu states device on from frame octets
            | None ↦ dropped
          ]))
      by true heard payload = h.managed_is from frame
      by false false payload = none
      by false true None = none
      by false true (Some octets) = of_npdu from frame octets

  of_datagram : (from : BipAddr) (octets : List ℕ) → P (receive_datagram states device on from octets)
  of_datagram from octets = by (comes_in on.port.address from octets) (bvll_at octets)
    where
      by : (comes : Bool) (frame : Result Frame BvllFault) → P (if comes then (elim frame [
        | Ok frame ↦ receive_frame states device on from frame
        | Err fault ↦ dropped
      ]) else dropped)
      by false frame = none
      by true (Err fault) = none
      by true (Ok frame) = of_frame from frame

pub received_holds : (P : Received → Type 0) → P dropped → (states : List PortState) (device number : ℕ) (from : BipAddr) (octets : List ℕ)
    → ((on : PortState) → port_at states number ≡ Some on → HoldsOn P on) → P (receive_on states device number from octets)
received_holds P none states device number from octets each = by (port_at states number) each
  where
    by : (o : Option PortState) → ((on : PortState) → o ≡ Some on → HoldsOn P on) → P (elim o [
      | Some on ↦ receive_datagram states device on from octets
      | None ↦ dropped
    ])
    by None h = none
    by (Some on) h = of_datagram P none states device on (h on refl) from octets

-- ---- it came on a port that is the broadcast manager of its subnet

abbrev pub OnManager : Received → Type 0
OnManager dropped = Unit {0}
OnManager (managed on from frame) = is_manager on.port ≡ true
OnManager (unregistered m) = is_manager m.here.port ≡ true
OnManager (barred m) = Unit {0}
OnManager (message m) = is_manager m.here.port ≡ true

manager_at : (i : ℕ) (states : List PortState) (on : PortState) → slice_get states i ≡ Some on → are_managers states ≡ true → is_manager on.port ≡ true
manager_at i [] on there e = cc
manager_at zero (state ∷ states) on there e =
    let same : state ≡ on = ap (λ (o : Option PortState). option_map_or (λ x. x) o state) there in
    ap (λ (s : PortState). is_manager s.port) (sym same) ∙ (and_parts (is_manager state.port) (are_managers states) e).0
manager_at (suc i) (state ∷ states) on there e = manager_at i states on there (and_parts (is_manager state.port) (are_managers states) e).1

there_by : (b : Bool) (o : Option PortState) (on : PortState) → (if b then None else o) ≡ Some on → o ≡ Some on
there_by true o on e = cc
there_by false o on e = e

pub manager_there : (states : List PortState) (number : ℕ) (on : PortState) → port_at states number ≡ Some on → are_managers states ≡ true
    → is_manager on.port ≡ true
manager_there states number on at e =
    manager_at (number - 1) states on (there_by (number == 0) (slice_get states (number - 1)) on at) e

pub managers_of : (relay : Relay) → is_plain relay ≡ true → are_managers relay.ports ≡ true
managers_of relay e = (and_parts (not relay.announce) (are_managers relay.ports) e).1

pub none_announced : (relay : Relay) → is_plain relay ≡ true → relay.announce ≡ false
none_announced relay e = not-true relay.announce (and_parts (not relay.announce) (are_managers relay.ports) e).0

pub received_on_managers : (w : State) (e : Event) → is_plain w.relay ≡ true → OnManager (received_before w e)
received_on_managers w (Datagram port from octets) plain =
    received_holds OnManager tt w.relay.ports (device_network w.device) port from octets (λ on at.
    let manager = manager_there w.relay.ports port on at (managers_of w.relay plain) in
    record { managed_is = λ f frame. manager; strange_is = λ f frame npdu. manager; message_is = λ f frame npdu. manager })
received_on_managers w Tick plain = tt

-- ---- a move leaves the ports

at_same : (i : ℕ) (f : PortState → PortState) → ((state : PortState) → (f state).port ≡ state.port) → (states : List PortState)
    → are_managers (changed_at i f states) ≡ are_managers states
at_same i f keeps [] = refl
at_same zero f keeps (state ∷ states) = ap (λ (port : Port). is_manager port && are_managers states) (keeps state)
at_same (suc i) f keeps (state ∷ states) = ap (λ (b : Bool). is_manager state.port && b) (at_same i f keeps states)

of_same : (number : ℕ) (f : PortState → PortState) → ((state : PortState) → (f state).port ≡ state.port) → (states : List PortState)
    → are_managers (changed_of number f states) ≡ are_managers states
of_same number f keeps states = by (number == 0)
  where
    by : (b : Bool) → are_managers (if b then states else changed_at (number - 1) f states) ≡ are_managers states
    by true = refl
    by false = at_same (number - 1) f keeps states

change_same : (change : Change) (states : List PortState) → are_managers (ports_after change states) ≡ are_managers states
change_same (Entries port bdt) states = of_same port (λ state. record state { bdt = bdt }) (λ state. refl) states
change_same (Registration port address time_to_live) states =
    of_same port (λ state. record state { fdt = registered address time_to_live state.fdt }) (λ state. refl) states
change_same (Deletion port address) states = of_same port (λ state. record state { fdt = deleted address state.fdt }) (λ state. refl) states
change_same (Learnings port next networks) states = refl

later_same : (states : List PortState) → are_managers (map port_later states) ≡ are_managers states
later_same [] = refl
later_same (state ∷ states) = ap (λ (b : Bool). is_manager state.port && b) (later_same states)

pub plain_move : (m : Option Move) (relay : Relay) → is_plain (moved m relay) ≡ is_plain relay
plain_move None relay = refl
plain_move (Some (move.Commit change)) relay = ap (λ (b : Bool). not relay.announce && b) (change_same change relay.ports)
plain_move (Some move.Tick) relay = ap (λ (b : Bool). not relay.announce && b) (later_same relay.ports)

plain_moves : (ms : List Move) (relay : Relay) → is_plain (moved_by ms relay) ≡ is_plain relay
unfolding moved_by
plain_moves [] relay = refl
plain_moves (m ∷ ms) relay = plain_move (Some m) (moved_by ms relay) ∙ plain_moves ms relay

pub plain_after : (c : Configuration) (k : Counts) (h : List Event) → is_plain (state_after c k h).relay ≡ is_plain (initial c)
plain_after c k h = plain_moves (acts_of c k h).moves (initial c)
