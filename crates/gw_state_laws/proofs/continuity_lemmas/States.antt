-- Which states a gateway of a configuration is in.
use Rattle.std.proofs.Common.{◌≡◌, ◌∙◌, sym, refl, subst, [], ◌∷◌, length, map, Option, Some, None}
use Rattle.std.proofs.lemmas.List.{length-map}
use Rattle.std.proofs.Common.{◌≤◌, arith}
use Rattle.gw_configuration.specs.Configuration.{Configuration}
use Rattle.gw_objects.specs.declared.configured.Configured.{Configured}
use Rattle.gw_objects.specs.Objects.{Database, database_of}
use Rattle.gw_objects.specs.Write.{Write}
use Rattle.gw_relay.specs.Initial.{direct_of, routed_of}
use Rattle.gw_relay.specs.State.{moved_by}
use Rattle.gw_tables.specs.routes.Table.{table_of}
use Rattle.gw_script.specs.Event.{Event}
use Rattle.gw_core.specs.Effects.{change_at, changed, move_at}
use Rattle.gw_core.specs.History.{acts_of, next, state_after, state_from, written}
use Rattle.gw_core.specs.State.{State}
use Rattle.gw_core.specs.declared.event.Counts.{Counts}
use Rattle.gw_core.proofs.HistoryLemmas.{state_next}
use Rattle.gw_core_laws.proofs.BareLemmas.{bare_next}
use Rattle.gw_relay.proofs.NeighbourLemmas.{bare_at_first, bare_resumed}
use Rattle.gw_state.specs.Carried.{routes_carried, tables_carried}
use Rattle.gw_state_laws.specs.continuity.Laws.{StatesAreCarried, StatesAreKept, StatesGoOn}
use Rattle.gw_state_laws.specs.continuity.StateOf.{AllInRange, IsAccepted, IsStateOf, IsTableOf}
use Rattle.gw_state_laws.proofs.continuity_lemmas.Learning.{table_stays}
use Rattle.gw_state_laws.proofs.continuity_lemmas.PortMoves.{announce_moved, format_moved, ports_begin, ports_numbered, ports_stay}
use Rattle.gw_state_laws.proofs.continuity_lemmas.PortStates.{ports_carried}
use Rattle.gw_state_laws.proofs.continuity_lemmas.Made.{granted_fits}
use Rattle.gw_state_laws.proofs.continuity_lemmas.Ranges.{WriteFits, written_range}
use Rattle.gw_state_laws.proofs.continuity_lemmas.Routes.{by_ports, learned_stays, none_learned}
use Rattle.gw_state_laws.proofs.continuity_lemmas.Values.{states_begin, states_within}

-- ---- before any event

fresh_table : (c : Configuration) → length c.routes ≤ 512
    → IsTableOf (length c.ports) (direct_of c) (map routed_of c.routes) (table_of (direct_of c) (map routed_of c.routes) [])
fresh_table c few =
    let held = length-map c.routes routed_of in
    none_learned (length c.ports) (direct_of c) (map routed_of c.routes) (omega (arith, held, few))

begins : (c : Configuration) (k : Counts) → IsAccepted c → IsStateOf c (state_after c k [])
unfolding acts_of moved_by written
begins c k is = record {
  format = refl;
  announce = refl;
  ports = ports_begin 1 c.ports;
  bare = bare_at_first c;
  routes = fresh_table c is.few;
  device = refl;
  values = states_begin c.objects is.defaults;
  rules = refl;
}

-- ---- one event later

configured_stays : (granted : Option Write) (d : Database) → (changed granted d).configured ≡ d.configured
configured_stays None d = refl
configured_stays (Some write) d = refl

changed_range : (c : Configuration) (granted : Option Write) (d : Database) → d.configured ≡ (database_of c).configured
    → ((write : Write) → granted ≡ Some write → WriteFits d.configured.objects write) → AllInRange c.objects d.states
    → AllInRange c.objects (changed granted d).states
changed_range c None d stays fit range = range
changed_range c (Some write) d stays fit range =
    written_range c.objects d.states write range (subst (λ (x : Configured). WriteFits x.objects write) stays (fit write refl))

next_is : (c : Configuration) (w : State) (e : Event) → IsStateOf c w → IsStateOf c (next w e)
unfolding next
next_is c w e is = record {
  format = format_moved (move_at w e) w.relay ∙ is.format;
  announce = announce_moved (move_at w e) w.relay ∙ is.announce;
  ports = ports_stay (move_at w e) w.relay c.ports is.ports;
  bare = bare_next w e is.bare;
  routes = table_stays (length c.ports) (direct_of c) (map routed_of c.routes) w e (ports_numbered w.relay.ticks c.ports w.relay.ports is.ports) is.routes;
  device = configured_stays (change_at w e) w.device ∙ is.device;
  values = changed_range c (change_at w e) w.device is.device (granted_fits w e) is.values;
  rules = is.rules;
}

-- ---- the laws

pub states_are_kept : (c : Configuration) → IsAccepted c → StatesAreKept c
states_are_kept c is k [] = begins c k is
states_are_kept c is k (e ∷ h) =
    subst (IsStateOf c) (sym (state_next c k h e)) (next_is c (state_after c k h) e (states_are_kept c is k h))

pub states_go_on : (c : Configuration) → StatesGoOn c
unfolding state_from
states_go_on c w [] is = is
states_go_on c w (e ∷ l) is = states_go_on c (next w e) l (next_is c w e is)

pub states_are_carried : (c : Configuration) → IsAccepted c → StatesAreCarried c
states_are_carried c is s = record {
  format = refl;
  announce = refl;
  ports = ports_carried s.counts.since 1 c.ports s.ports;
  bare = bare_resumed c (tables_carried s.counts.since c.ports s.ports) (routes_carried c.ports s) s.counts.since;
  routes = learned_stays (length c.ports) (direct_of c) (map routed_of c.routes) (routes_carried c.ports s) _ (by_ports c.ports s.ports s.routes)
      (fresh_table c is.few);
  device = refl;
  values = states_within c.objects s.objects is.defaults;
  rules = refl;
}
