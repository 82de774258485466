-- No port with another broadcast manager beside it ever has a peer or a foreign device.
use Rattle.std.proofs.Common.{◌≡◌, ◌∙◌, sym, ap, Bool, true, false, List, [], ◌∷◌, Option, Some, None}
use Rattle.std.specs.Prelude.{if◌then◌else◌}
use Rattle.std.specs.Option.{option_map}
use Rattle.gw_configuration.specs.Configuration.{Configuration}
use Rattle.gw_rules.specs.declared.rule.Rule.{Rule}
use Rattle.gw_relay.specs.Entry.{admits}
use Rattle.gw_relay.specs.Initial.{initial}
use Rattle.gw_relay.specs.Message.{Message, message_of}
use Rattle.gw_relay.specs.Neighbours.{are_bare}
use Rattle.gw_relay.specs.State.{Commit, Relay, moved}
use Rattle.gw_relay.proofs.NeighbourLemmas.{bare_at_first, bare_resumed, learning_stays_bare, tables_stay_bare, ticks_stay_bare}
use Rattle.gw_core.specs.declared.event.Counts.{Counts}
use Rattle.gw_core.specs.Effects.{move_at, relay_change_for}
use Rattle.gw_core.specs.History.{acts_of, next, state_after, state_from}
use Rattle.gw_relay.specs.State.{moved_by}
use Rattle.gw_core.specs.Receive.{Received, admit, barred, message, receive}
use Rattle.gw_core.specs.State.{State, device_network}
use Rattle.gw_core.proofs.HistoryLemmas.{state_next}
use Rattle.gw_core_laws.specs.Neighbours.{CarriedPortsAreBare, EventsLeaveThemBare, PortsAreBare}
use Rattle.gw_core_laws.proofs.ManagerLemmas.{received_holds}
use Rattle.gw_state.specs.Carried.{routes_carried, tables_carried}
use Rattle.gw_script.specs.Event.{Event, Datagram, Tick}

-- what is received leaves them so
LeavesBare : List Rule → Relay → Received → Type 0
LeavesBare rules relay received = are_bare 1 (moved (option_map Commit (relay_change_for rules relay (admit rules relay received))) relay).ports ≡ true

message_leaves : (rules : List Rule) (relay : Relay) (m : Message) → are_bare 1 relay.ports ≡ true → LeavesBare rules relay (message m)
unfolding LeavesBare
message_leaves rules relay m bare = by (admits rules relay m)
  where
    by : (b : Bool) → are_bare 1 (moved (option_map Commit (relay_change_for rules relay (if b then message m else barred m))) relay).ports ≡ true
    by true = learning_stays_bare rules relay m bare
    by false = bare

pub bare_next : EventsLeaveThemBare
unfolding next move_at receive LeavesBare
bare_next w (Datagram port from octets) bare =
    received_holds (LeavesBare w.rules w.relay) bare w.relay.ports (device_network w.device) port from octets (λ on at. record {
      managed_is = λ by frame. tables_stay_bare w.rules w.relay port on by frame at bare;
      strange_is = λ by frame npdu. bare;
      message_is = λ by frame npdu. message_leaves w.rules w.relay (message_of on by frame npdu) bare;
    })
bare_next w Tick bare = ticks_stay_bare w.relay bare

pub bare_after : PortsAreBare
unfolding acts_of moved_by
bare_after c k [] = bare_at_first c
bare_after c k (e ∷ h) =
    ap (λ (w : State). are_bare 1 w.relay.ports) (state_next c k h e) ∙ bare_next (state_after c k h) e (bare_after c k h)

pub bare_from : (w : State) (l : List Event) → are_bare 1 w.relay.ports ≡ true → are_bare 1 (state_from w l).relay.ports ≡ true
unfolding state_from
bare_from w [] bare = bare
bare_from w (e ∷ l) bare = bare_from (next w e) l (bare_next w e bare)

pub bare_carried : CarriedPortsAreBare
bare_carried c s = bare_resumed c (tables_carried s.counts.since c.ports s.ports) (routes_carried c.ports s) s.counts.since
