-- What is saved of a gateway fits its text.
use Rattle.std.proofs.Common.{◌≡◌, ◌∙◌, sym, ap, refl, subst, ℕ, ◌≤◌, true, false, ◌||◌, ◌&&◌, List, [], ◌∷◌, ◌++◌, length, map}
use Rattle.std.specs.Prelude.{nat_eq, nat_le, Ok}
use Rattle.std.specs.List.{AllByRecursion, list_any}
use Rattle.std.proofs.lemmas.Bool.{and_parts, leb-true, or_parts}
use Rattle.gw_configuration.specs.Configuration.{Configuration}
use Rattle.gw_configuration.specs.Duplicates.{has_duplicates, has_twice, identifiers, networks, peer_addresses, port_addresses}
use Rattle.gw_core.specs.Resumed.{carried, saved, saved_of}
use Rattle.gw_core.specs.State.{State}
use Rattle.gw_state.specs.Saved.{Saved, SavedObject, are_few, origin_of, with_denials}
use Rattle.gw_state_text.specs.Fit.{AreFit, FitsObjects, FitsRoutes}
use Rattle.gw_state_text.specs.Items.{AllFit}
use Rattle.gw_state_text.specs.Laws.{TextsAreRead}
use Rattle.gw_state_laws.specs.continuity.Laws.{NothingIsLost, SlotsAreCarried, SlotsAreKept, SlotsGoOn, StatesAreCarried, StatesAreKept, StatesGoOn}
use Rattle.gw_state_laws.specs.continuity.StateOf.{HasItsSlots}
use Rattle.gw_state_laws.proofs.continuity_lemmas.PortStates.{ports_saved}
use Rattle.gw_state_laws.proofs.continuity_lemmas.Slots.{slots_are_saved}
use Rattle.gw_state_laws.proofs.continuity_lemmas.Values.{objects_saved}
use Rattle.gw_state_laws.specs.restoring.GatewayOf.{IsGatewayOf}
use Rattle.gw_state_laws.specs.restoring.Laws.{CountsLeaveThemSo, NewOnesAre, NumberedOnesAreRead, NumberedOnesFit, ReloadedOnesAre, ResumedOnesAre, SavedOnesAreRead, SavedOnesAreRestored, SavedOnesFit, TheyStaySo}
use Rattle.gw_state_laws.specs.restoring.internal.Typed.{IsTyped}
use Rattle.gw_state_laws.proofs.restoring_lemmas.ObjectsFit.{objects_fit}
use Rattle.gw_state_laws.proofs.restoring_lemmas.PortsFit.{length_saved, ports_fit}
use Rattle.gw_state_laws.proofs.restoring_lemmas.RoutesFit.{routes_fit}

-- ---- what a configuration has once

any_front : (n : ℕ) (xs ys : List ℕ) → list_any (nat_eq n) (xs ++ ys) ≡ false → list_any (nat_eq n) xs ≡ false
any_front n [] ys e = refl
any_front n (x ∷ xs) ys e =
    let parts = or_parts (nat_eq n x) (list_any (nat_eq n) (xs ++ ys)) e in
    λ j. parts.0 j || any_front n xs ys parts.1 j

front : (xs ys : List ℕ) → has_twice nat_eq (xs ++ ys) ≡ false → has_twice nat_eq xs ≡ false
front [] ys e = refl
front (x ∷ xs) ys e =
    let parts = or_parts (list_any (nat_eq x) (xs ++ ys)) (has_twice nat_eq (xs ++ ys)) e in
    λ j. any_front x xs ys parts.0 j || front xs ys parts.1 j

-- networks, peers and identifiers
record HasOnce (c : Configuration) : Type 0 where
  pub of_ports : has_twice nat_eq (map (λ p. p.network) c.ports) ≡ false
  pub of_peers : list_any (λ port. has_twice nat_eq (peer_addresses port.peers)) c.ports ≡ false
  pub of_objects : has_twice nat_eq (identifiers c.objects) ≡ false

has_once : (c : Configuration) → has_duplicates c ≡ false → HasOnce c
unfolding has_duplicates
has_once c e =
    let first = or_parts (has_twice nat_eq (networks c)) _ e in
    let second = or_parts (has_twice nat_eq (port_addresses c.ports)) _ first.1 in
    let third = or_parts (list_any (λ port. has_twice nat_eq (peer_addresses port.peers)) c.ports) _ second.1 in
    record {
      of_ports = front (map (λ p. p.network) c.ports) _ first.0;
      of_peers = third.0;
      of_objects = (or_parts (has_twice nat_eq (identifiers c.objects)) _ third.1).0;
    }

-- ---- what is saved fits

typed_fits : (c : Configuration) (w : State) (denials : ℕ) → HasOnce c → IsGatewayOf c w → IsTyped (with_denials (saved c w) denials)
    → AreFit (with_denials (saved c w) denials)
typed_fits c w denials once is typed =
    let s = with_denials (saved c w) denials in
    let ports = and_parts (nat_le (length s.ports) 8) _ typed.few in
    let others = and_parts (nat_le (length s.routes) 512) (nat_le (length s.objects) 256) ports.1 in
    let table = is.state.routes in
    let many : length c.ports ≡ length s.ports = sym (length_saved w.relay.ticks 1 c.ports w.relay.ports is.state.ports) in
    record {
      counts = typed.counts;
      ports =
          ports_fit w.relay.ticks c.ports w.relay.ports is.state.ports once.of_ports once.of_peers (leb-true _ 8 ports.0) typed.ports;
      routes =
          routes_fit (length s.ports) s.routes
          (subst (λ n. AllByRecursion (λ learned. (1 ≤ learned.1.port) × (learned.1.port ≤ n)) s.routes) many table.by) table.once
          (leb-true _ 512 others.0) typed.routes;
      objects =
          objects_fit c.objects w.device.states is.state.values is.slots once.of_objects (leb-true _ 256 others.1) typed.objects;
    }

pub numbered_ones_fit : (c : Configuration) (s : Saved) → has_duplicates c ≡ false → IsTyped s → NumberedOnesFit c s
numbered_ones_fit c s none typed = λ w denials is same.
    subst AreFit (sym same) (typed_fits c w denials (has_once c none) is (subst IsTyped same typed))

pub numbered_ones_are_read : (c : Configuration) (s : Saved) → has_duplicates c ≡ false → IsTyped s → TextsAreRead → NumberedOnesAreRead c s
numbered_ones_are_read c s none typed read = λ w denials is same. read s (numbered_ones_fit c s none typed w denials is same)

-- with its own number it is what was saved
pub saved_ones_fit : (c : Configuration) (s : Saved) → has_duplicates c ≡ false → IsTyped s → SavedOnesFit c s
saved_ones_fit c s none typed = λ w is same. numbered_ones_fit c s none typed w w.denials is same

pub saved_ones_are_read : (c : Configuration) (s : Saved) → has_duplicates c ≡ false → IsTyped s → TextsAreRead → SavedOnesAreRead c s
saved_ones_are_read c s none typed read = λ w is same. read s (saved_ones_fit c s none typed w is same)

pub saved_ones_are_restored : (c : Configuration) (s : Saved) → NothingIsLost c → SavedOnesAreRestored c s
saved_ones_are_restored c s kept = λ w is same. ap (carried c) same ∙ kept w is.state

-- ---- every gateway is in such a state

pub new_ones_are : (c : Configuration) → StatesAreKept c → SlotsAreKept c → NewOnesAre c
new_ones_are c states slots k h = record { state = states k h; slots = slots k h }

pub they_stay_so : (c : Configuration) → StatesGoOn c → SlotsGoOn → TheyStaySo c
they_stay_so c states slots w l is = record { state = states w l is.state; slots = slots w l is.slots }

fit_slots : (before objects : List SavedObject) → AllFit FitsObjects before objects
    → AllByRecursion (λ object. HasItsSlots object.slots) objects
unfolding AllFit
fit_slots before [] fit = tt
fit_slots before (o ∷ objects) fit =
    (record { sixteen = fit.0.sixteen; sixth = fit.0.sixth }, fit_slots (before ++ o ∷ []) objects fit.1)

pub resumed_ones_are : (c : Configuration) → StatesAreCarried c → SlotsAreCarried c → ResumedOnesAre c
resumed_ones_are c states slots s fit = record { state = states s; slots = slots s (fit_slots [] s.objects fit.objects.fit) }

pub reloaded_ones_are : (c : Configuration) → StatesAreCarried c → SlotsAreCarried c → ReloadedOnesAre c
reloaded_ones_are c states slots old w is = record {
  state = states (saved old w);
  slots = slots (saved old w) (slots_are_saved old w is.slots);
}

pub counts_leave_them_so : (c : Configuration) → CountsLeaveThemSo c
counts_leave_them_so c w ticks denials is = record {
  state = record {
    format = is.state.format;
    announce = is.state.announce;
    ports = is.state.ports;
    bare = is.state.bare;
    routes = is.state.routes;
    device = is.state.device;
    values = is.state.values;
    rules = is.state.rules;
  };
  slots = is.slots;
}
