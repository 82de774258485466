-- A whole state is taken over.
use Rattle.std.proofs.Common.{◌≡◌, ◌∙◌, sym, ap, refl, subst, ℕ, ◌+◌, ◌≤◌, Bool, false, ◌||◌, List, [], ◌∷◌, ◌++◌, length, map, nat_eq, IsFalse}
use Rattle.std.specs.List.{AllByRecursion, list_any}
use Rattle.std.proofs.lemmas.Bool.{or_parts}
use Rattle.gw_configuration.specs.Configuration.{Configuration}
use Rattle.gw_configuration.specs.Duplicates.{has_duplicates, has_twice, identifiers, networks, peer_addresses, port_addresses}
use Rattle.gw_objects.specs.declared.configured.Configured.{Configured}
use Rattle.gw_objects.specs.Objects.{Slots}
use Rattle.gw_relay.specs.Initial.{direct_of, routed_of}
use Rattle.gw_relay.specs.declared.port.PortState.{PortState}
use Rattle.gw_tables.specs.routes.Table.{Routed, Table, is_fixed, table_of}
use Rattle.gw_rules.specs.declared.format.Format.{Format}
use Rattle.gw_rules.specs.declared.rule.Rule.{Rule}
use Rattle.gw_core.specs.State.{State}
use Rattle.gw_core.specs.History.{run_from, state_after}
use Rattle.gw_tables.specs.routes.Table.{learned_by}
use Rattle.gw_state.specs.Carried.{is_object, is_port, routes_carried}
use Rattle.gw_state_laws.specs.continuity.Laws.{HistoriesGoOn, NoTablesAreSaved, NothingIsLost, RunsGoOn, ValuesStayInRange}
use Rattle.gw_core.specs.Resumed.{saved}
use Rattle.gw_state_laws.specs.continuity.StateOf.{IsAccepted, IsStateOf}
use Rattle.gw_state_laws.proofs.continuity_lemmas.Found.{apart_none}
use Rattle.gw_state_laws.proofs.continuity_lemmas.PortStates.{none_saved, ports_back}
use Rattle.gw_state_laws.proofs.continuity_lemmas.Learned.{learned_back, routes_stay}
use Rattle.gw_state_laws.proofs.continuity_lemmas.States.{states_are_kept}
use Rattle.gw_state_laws.proofs.continuity_lemmas.Values.{states_back}

-- no network appears twice among the first
any_front : (n : ℕ) (xs ys : List ℕ) → list_any (nat_eq n) (xs ++ ys) ≡ false → list_any (nat_eq n) xs ≡ false
any_front n [] ys e = refl
any_front n (x ∷ xs) ys e =
    let parts = or_parts (nat_eq n x) (list_any (nat_eq n) (xs ++ ys)) e in
    λ j. parts.0 j || any_front n xs ys parts.1 j

front : (xs ys : List ℕ) → has_twice nat_eq (xs ++ ys) ≡ false → has_twice nat_eq xs ≡ false
front [] ys e = refl
front (x ∷ xs) ys e =
    let parts = or_parts (list_any (nat_eq x) (xs ++ ys)) (has_twice nat_eq (xs ++ ys)) e in
    λ j. any_front x xs ys parts.0 j || front xs ys parts.1 j

ports_once : (c : Configuration) → has_duplicates c ≡ false → has_twice nat_eq (map (λ p. p.network) c.ports) ≡ false
unfolding has_duplicates
ports_once c e = front (map (λ p. p.network) c.ports) _ (or_parts (has_twice nat_eq (networks c)) _ e).0

objects_once : (c : Configuration) → has_duplicates c ≡ false → has_twice nat_eq (identifiers c.objects) ≡ false
unfolding has_duplicates
objects_once c e =
    let first = or_parts (has_twice nat_eq (networks c)) _ e in
    let second = or_parts (has_twice nat_eq (port_addresses c.ports)) _ first.1 in
    let third = or_parts (list_any (λ port. has_twice nat_eq (peer_addresses port.peers)) c.ports) _ second.1 in
    (or_parts (has_twice nat_eq (identifiers c.objects)) _ third.1).0

abbrev state_with : Format → Bool → List PortState → Table → ℕ → Configured → List Slots → List Rule → ℕ → ℕ → State
state_with format announce ports routes since configured states rules ticks denials = record {
  relay = record { format = format; announce = announce; ports = ports; routes = routes; ticks = since };
  device = record { configured = configured; states = states };
  rules = rules;
  ticks = ticks;
  denials = denials;
}

-- a network is fixed whatever is learned
free_of : (c : Configuration) (w : State) → IsStateOf c w → (routes : Routed)
    → AllByRecursion (λ learned. IsFalse (is_fixed w.relay.routes learned.0)) routes
    → AllByRecursion (λ learned. IsFalse (is_fixed (table_of (direct_of c) (map routed_of c.routes) []) learned.0)) routes
free_of c w is [] free = tt
free_of c w is (learned ∷ routes) free =
    ((λ j. is_fixed (table_of (sym is.routes.direct j) (sym is.routes.configured j) []) learned.0) ∙ free.0, free_of c w is routes free.1)

routes_back : (c : Configuration) (w : State) → has_twice nat_eq (map (λ p. p.network) c.ports) ≡ false → IsStateOf c w
    → learned_by (table_of (direct_of c) (map routed_of c.routes) []) (routes_carried c.ports (saved c w)) ≡ w.relay.routes
routes_back c w once is =
    let table = is.routes in
    let learned = w.relay.routes.learned in
    ap (learned_by (table_of (direct_of c) (map routed_of c.routes) [])) (routes_stay w.relay.ticks c.ports w.relay.ports learned is.ports once table.by)
    ∙ learned_back (direct_of c) (map routed_of c.routes) [] learned (free_of c w is learned table.free) table.once
    (subst (λ (configured : Routed). length configured + length learned ≤ 512) table.configured table.few)
    ∙ (λ j. table_of (sym table.direct j) (sym table.configured j) learned)

pub nothing_is_lost : (c : Configuration) → IsAccepted c → NothingIsLost c
nothing_is_lost c accepted w is =
    let once = ports_once c accepted.once in
    let ports = ports_back w.relay.ticks 1 c.ports w.relay.ports [] is.ports is.bare (apart_none is_port c.ports) once in
    let states = states_back c.objects w.device.states [] is.values (apart_none is_object c.objects) (objects_once c accepted.once) in
    λ j. state_with (sym is.format j) (sym is.announce j) (ports j) (routes_back c w once is j) w.relay.ticks (sym is.device j) (states j) (sym is.rules j) w.ticks w.denials

pub no_tables_are_saved : (c : Configuration) → NoTablesAreSaved c
no_tables_are_saved c w is = none_saved w.relay.ticks 1 c.ports w.relay.ports is.ports is.bare

pub histories_go_on : (c : Configuration) → IsAccepted c → HistoriesGoOn c
histories_go_on c accepted k h = nothing_is_lost c accepted (state_after c k h) (states_are_kept c accepted k h)

pub runs_go_on : (c : Configuration) → IsAccepted c → RunsGoOn c
runs_go_on c accepted w l is = ap (λ (x : State). run_from x l) (nothing_is_lost c accepted w is)

pub values_stay_in_range : (c : Configuration) → IsAccepted c → ValuesStayInRange c
values_stay_in_range c accepted k h = (states_are_kept c accepted k h).values
