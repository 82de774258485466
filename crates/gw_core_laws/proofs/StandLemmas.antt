-- After every history the ports' tables, the routes and the device's slots are as its granted acts left them.
use Rattle.std.proofs.Common.{◌≡◌, ℕ, List, [], ◌∷◌, map, Option, Some, None, refl, sym, subst}
use Rattle.std.specs.Prelude.{slice_get}
use Rattle.gw_device.specs.declared.context.Context.{Context}
use Rattle.gw_device.proofs.Writes.{changes_can_be_made}
use Rattle.gw_objects.proofs.Histories.{put_next, start_states}
use Rattle.gw_objects.specs.Objects.{Database, default_of, defaults_of}
use Rattle.gw_objects.specs.History.{IsStateAfter as SlotsStand}
use Rattle.gw_objects.specs.Write.{CanAct, Write}
use Rattle.gw_configuration.specs.declared.object.Object.{Object}
use Rattle.gw_rules.specs.declared.format.Format.{Format}
use Rattle.gw_rules.specs.declared.rule.Rule.{Rule}
use Rattle.gw_configuration.specs.Configuration.{Configuration}
use Rattle.gw_relay.proofs.Histories.{changes_extend, configured_stand, ticks_extend}
use Rattle.gw_relay.specs.History.{AreStatesAfter, acts_moved, learned_moved, ports_from}
use Rattle.gw_relay.specs.History.{Acts as PortActs}
use Rattle.gw_relay.specs.Initial.{direct_of, routed_of}
use Rattle.gw_relay.specs.State.{Move, Commit, Relay, moved, moved_by}
use Rattle.gw_relay.specs.State.{Tick as Later}
use Rattle.gw_relay.specs.declared.change.Change.TheVariants.{Entries, Registration, Deletion, Learnings}
use Rattle.gw_relay.specs.declared.port.Port.{Port}
use Rattle.gw_tables.proofs.routes_lemmas.Learning.{after_each}
use Rattle.gw_tables.specs.routes.History.{History as Learned}
use Rattle.gw_tables.specs.routes.History.{IsStateAfter as IsTableAfter}
use Rattle.gw_tables.specs.routes.History.{learned_after, networks_learned}
use Rattle.gw_tables.specs.routes.Table.{Routed, route_by}
use Rattle.gw_script.specs.Event.{Event}
use Rattle.gw_core.specs.Effects.{apdu_change, change_at, change_for, changed, move_at}
use Rattle.gw_core.specs.History.{RoutesStand, TablesStand, WritesStand, acts_of, learnings, next, port_acts, state_after, with_granted, writes, written}
use Rattle.gw_core_laws.specs.Laws.{ActsLeaveTheTables, LearningsLeaveTheRoutes, WritesLeaveTheSlots}
use Rattle.gw_core.specs.Receive.{Received, barred, dropped, managed, message, receive, unregistered}
use Rattle.gw_core.specs.Reply.{apdu_for, context_of}
use Rattle.gw_core.specs.State.{State, device_network}
use Rattle.gw_core.specs.declared.event.Counts.{Counts}
use Rattle.gw_core.proofs.HistoryLemmas.{state_next}

tables_moved : (m : Option Move) (relay : Relay) (ports : List Port) (acts : List PortActs) → AreStatesAfter relay.ports ports acts
    → AreStatesAfter (moved m relay).ports ports (acts_moved m acts)
tables_moved None relay ports acts stand = stand
tables_moved (Some (Commit change)) relay ports acts stand = changes_extend change relay.ports ports acts stand
tables_moved (Some Later) relay ports acts stand = ticks_extend relay.ports ports acts stand

routes_moved : (m : Option Move) (relay : Relay) (direct : List ℕ) (configured : Routed) (h : Learned)
    → IsTableAfter relay.routes direct configured h
    → IsTableAfter (moved m relay).routes direct configured (learned_moved m relay.routes h)
routes_moved None relay direct configured h stand = stand
routes_moved (Some (Commit (Entries port entries))) relay direct configured h stand = stand
routes_moved (Some (Commit (Registration port address time_to_live))) relay direct configured h stand = stand
routes_moved (Some (Commit (Deletion port address))) relay direct configured h stand = stand
routes_moved (Some (Commit (Learnings port router networks))) relay direct configured h stand =
    after_each networks relay.routes _ direct configured h (route_by port router) refl stand
routes_moved (Some Later) relay direct configured h stand = stand

-- the tables of the next state
tables_next : (c : Configuration) (w : State) (e : Event) (acts : List PortActs) → TablesStand c acts w
    → TablesStand c (acts_moved (move_at w e) acts) (next w e)
unfolding next
tables_next c w e acts stand = tables_moved (move_at w e) w.relay (ports_from 1 c.ports) acts stand

routes_next : (c : Configuration) (w : State) (e : Event) (h : Learned) → RoutesStand c h w
    → RoutesStand c (learned_moved (move_at w e) w.relay.routes h) (next w e)
unfolding next
routes_next c w e h stand = routes_moved (move_at w e) w.relay (direct_of c) (map routed_of c.routes) h stand

-- before any event
tables_first : (c : Configuration) (k : Counts) → TablesStand c (port_acts c k []) (state_after c k [])
unfolding acts_of moved_by port_acts
tables_first c k = configured_stand 1 c.ports

routes_first : (c : Configuration) (k : Counts) → RoutesStand c (learnings c k []) (state_after c k [])
unfolding acts_of learned_after learnings moved_by networks_learned
routes_first c k = refl

pub acts_leave_the_tables : ActsLeaveTheTables
unfolding port_acts
acts_leave_the_tables c k [] = tables_first c k
acts_leave_the_tables c k (e ∷ h) =
    subst (TablesStand c (port_acts c k (e ∷ h))) (sym (state_next c k h e))
    (tables_next c (state_after c k h) e (port_acts c k h) (acts_leave_the_tables c k h))

pub learnings_leave_the_routes : LearningsLeaveTheRoutes
unfolding learnings
learnings_leave_the_routes c k [] = routes_first c k
learnings_leave_the_routes c k (e ∷ h) =
    subst (RoutesStand c (learnings c k (e ∷ h))) (sym (state_next c k h e))
    (routes_next c (state_after c k h) e (learnings c k h) (learnings_leave_the_routes c k h))

-- a write that is granted can be made
apdu_can : (rules : List Rule) (d : Database) (context : Context) (apdu : Option (List ℕ)) (write : Write)
    → apdu_change rules d context apdu ≡ Some write → CanAct write.act
apdu_can rules d context None write e = absurd cc
apdu_can rules d context (Some octets) write e = changes_can_be_made rules d context octets write e

change_can : (rules : List Rule) (format : Format) (d : Database) (received : Received) (write : Write)
    → change_for rules format d received ≡ Some write → CanAct write.act
change_can rules format d dropped write e = absurd cc
change_can rules format d (managed on from frame) write e = absurd cc
change_can rules format d (unregistered m) write e = absurd cc
change_can rules format d (barred m) write e = absurd cc
change_can rules format d (message m) write e =
    apdu_can rules d (context_of format (device_network d) m) (apdu_for (device_network d) m.npdu) write e

granted_can : (w : State) (e : Event) (write : Write) → change_at w e ≡ Some write → CanAct write.act
unfolding change_at
granted_can w e write is = change_can w.rules w.relay.format w.device (receive w e) write is

slots_changed : (c : Configuration) (granted : Option Write) (before : List Write) (d : Database)
    → ((write : Write) → granted ≡ Some write → CanAct write.act) → SlotsStand (defaults_of c) before d.states
    → SlotsStand (defaults_of c) (with_granted granted before) (changed granted d).states
slots_changed c None before d can stand = stand
slots_changed c (Some write) before d can stand =
    put_next (defaults_of c) before write d.states (can write refl) stand (slice_get d.states write.place) refl

slots_next : (c : Configuration) (w : State) (e : Event) (before : List Write) → WritesStand c before w
    → WritesStand c (with_granted (change_at w e) before) (next w e)
unfolding next
slots_next c w e before stand = slots_changed c (change_at w e) before w.device (granted_can w e) stand

slots_first : (c : Configuration) (k : Counts) → WritesStand c (writes c k []) (state_after c k [])
unfolding acts_of writes written
slots_first c k = start_states (λ (object : Object). default_of object.value) c.objects

pub writes_leave_the_slots : WritesLeaveTheSlots
unfolding writes
writes_leave_the_slots c k [] = slots_first c k
writes_leave_the_slots c k (e ∷ h) =
    subst (WritesStand c (writes c k (e ∷ h))) (sym (state_next c k h e))
    (slots_next c (state_after c k h) e (writes c k h) (writes_leave_the_slots c k h))
