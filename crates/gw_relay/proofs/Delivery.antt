-- Where routing sends a unicast.
use Rattle.std.proofs.Common.{◌≡◌, ◌∙◌, sym, ap, refl, ℕ, zero, suc, ◌+◌, ◌-◌, Bool, true, false, ◌&&◌, ◌||◌, List, [], ◌∷◌, ◌++◌, map, length, nat_le, Option, Some, None}
use Rattle.std.specs.Prelude.{◌==◌, if◌then◌else◌, nat_eq, position, slice_get, slice_index}
use Rattle.std.specs.List.{AllByRecursion, flat_map, list_all, list_any}
use Rattle.std.specs.Map.{lookup}
use Rattle.std.specs.Option.{option_map, option_map_or}
use Rattle.std.proofs.lemmas.List.Folds.{list_any-append}
use Rattle.std.proofs.lemmas.Bool.{eq-eqb}
use Rattle.gw_addr.specs.declared.bip.BipAddr.{BipAddr}
use Rattle.gw_addr.specs.Address.{address_in}
use Rattle.gw_addr.specs.Station.{network_of}
use Rattle.gw_tables.specs.bdt_fdt.Registrations.{same}
use Rattle.gw_tables.proofs.bdt_fdt_lemmas.Same.{own}
use Rattle.gw_frames.specs.bvll.Bvll.{encoding, forwarded, octet_of, original_broadcast, original_unicast}
use Rattle.gw_frames.specs.declared.bvll.function.Function.TheVariants.{OriginalUnicast}
use Rattle.gw_frames.specs.declared.bvll.writing.TheConstants.{MAX_LEN}
use Rattle.gw_frames.specs.npdu.Npdu.{Destination, Fields}
use Rattle.gw_frames.specs.npdu.Numbers.{max_len}
use Rattle.gw_frames.specs.declared.npdu.kind.MessageKind.TheVariants.{RejectMessageToNetwork}
use Rattle.gw_tables.specs.routes.Table.{Routed, Table, direct_way, network_way, route_of, way}
use Rattle.gw_tables.specs.declared.routes.route.Route.{Route}
use Rattle.gw_tables.specs.declared.routes.route.TheConstants.{EVERYWHERE}
use Rattle.gw_tables.specs.declared.routes.route.Way.{Way}
use Rattle.gw_tables.specs.declared.routes.route.Way.TheVariants as ways
use Rattle.gw_rules.specs.RuleList.{allows}
use Rattle.gw_rules.specs.declared.rule.Rule.{Rule}
use Rattle.gw_relay.specs.Asks.{bound_for}
use Rattle.gw_relay.specs.Cast.{devices, managers, spread}
use Rattle.gw_relay.specs.Laws.{Inside, NothingIsDeliveredOutside, Reaches, Rejected, ToRouter, is_unicast}
use Rattle.gw_relay.specs.Message.{Message}
use Rattle.gw_relay.specs.Route.{copy, delivered, forward, has_hops, is_kind, is_local, last_hop, leaves, next_hop, others, reject, route_steps, steps_by, who_is_router}
use Rattle.gw_relay.specs.Sends.{Sending, sending, sendings, sent}
use Rattle.gw_relay.specs.State.{Relay, port_at}
use Rattle.gw_relay.specs.Stations.{belongs}
use Rattle.gw_relay.specs.Steps.{Step, allowed_sends, broadcast, npdu_octets, sends_of, unicast}
use Rattle.gw_relay.specs.declared.port.PortState.{PortState}

-- a datagram goes where it may
Fine : Relay → Message → Sending → Type 0
Fine relay m s = is_unicast s ≡ true → Reaches relay m s

AllFine : Relay → Message → List Sending → Type 0
AllFine relay m sends = AllByRecursion (Fine relay m) sends

module _ (relay : Relay) (m : Message) where
  both_fine : (xs ys : List Sending) → AllFine relay m xs → AllFine relay m ys → AllFine relay m (xs ++ ys)
  unfolding AllFine
  both_fine [] ys f g = g
  both_fine (x ∷ xs) ys f g = (f.0, both_fine xs ys f.1 g)

  fine_if : (b : Bool) (sends : List Sending) → AllFine relay m sends → AllFine relay m (if b then sends else [])
  unfolding AllFine
  fine_if true sends f = f
  fine_if false sends f = tt

  each_fine : {A : Type 0} (f : A → List Sending) → ((x : A) → AllFine relay m (f x)) → (xs : List A) → AllFine relay m (flat_map f xs)
  unfolding AllFine
  each_fine f all [] = tt
  each_fine f all (x ∷ xs) = both_fine (f x) (flat_map f xs) (all x) (each_fine f all xs)

  -- ---- broadcasts, none of which is a unicast

  quiet_fine : (port : ℕ) (targets : List BipAddr) (octets : List ℕ) → (slice_index octets 1 == octet_of OriginalUnicast) ≡ false
      → AllFine relay m (sendings port targets octets)
  unfolding AllFine Fine
  quiet_fine port [] octets e = tt
  quiet_fine port (to ∷ targets) octets e = (λ u. absurd cc, quiet_fine port targets octets e)

  spread_fine : (state : PortState) (npdu : List ℕ) → AllFine relay m (spread state npdu)
  unfolding spread
  spread_fine state npdu =
      let subnet = original_broadcast npdu in
      let elsewhere = forwarded state.port.address npdu in
      fine_if (nat_le (length npdu) max_len) _ (both_fine (sent state.port.number (state.port.broadcast ∷ []) subnet)
      (sent state.port.number (managers state ++ devices state) elsewhere)
      (fine_if (nat_le (length (encoding subnet)) MAX_LEN) _ (quiet_fine state.port.number (state.port.broadcast ∷ []) (encoding subnet) refl))
      (fine_if (nat_le (length (encoding elsewhere)) MAX_LEN) _ (quiet_fine state.port.number (managers state ++ devices state) (encoding elsewhere) refl)))

  broadcast_fine : (npdu : Fields) (state : PortState) → AllFine relay m (broadcast npdu state)
  unfolding AllFine
  broadcast_fine npdu state = by (npdu_octets npdu)
    where
      by : (made : Option (List ℕ)) → AllFine relay m (option_map_or (spread state) made [])
      by None = tt
      by (Some octets) = spread_fine state octets

  -- ---- unicasts

  unicast_fine : (port : ℕ) (to : BipAddr) (npdu : Fields)
      → ((s : Sending) → s.port ≡ port → s.to ≡ to → unicast port to npdu ≡ s ∷ [] → Reaches relay m s) → AllFine relay m (unicast port to npdu)
  unfolding AllFine Fine
  unicast_fine port to npdu reaches = by (npdu_octets npdu) reaches
    where
      by_len : (b : Bool) (octets : List ℕ) → ((s : Sending) → s.port ≡ port → s.to ≡ to
          → (if b then sendings port (to ∷ []) octets else []) ≡ s ∷ [] → Reaches relay m s)
          → AllFine relay m (if b then sendings port (to ∷ []) octets else [])
      by_len true octets reaches = (λ u. reaches (sending port octets to) refl refl refl, tt)
      by_len false octets reaches = tt

      by : (made : Option (List ℕ)) → ((s : Sending) → s.port ≡ port → s.to ≡ to
          → option_map_or (λ octets. sent port (to ∷ []) (original_unicast octets)) made [] ≡ s ∷ [] → Reaches relay m s)
          → AllFine relay m (option_map_or (λ octets. sent port (to ∷ []) (original_unicast octets)) made [])
      by None reaches = tt
      by (Some octets) reaches =
          by_len (nat_le (length (encoding (original_unicast octets))) MAX_LEN) (encoding (original_unicast octets)) reaches

-- ---- inside

both : (a b : Bool) → a ≡ true → b ≡ true → (a && b) ≡ true
both true b e f = f
both false b e f = cc

either_first : (a b : Bool) → a ≡ true → (a || b) ≡ true
either_first true b e = refl
either_first false b e = cc

either_second : (a b : Bool) → b ≡ true → (a || b) ≡ true
either_second true b e = refl
either_second false b e = e

any_at : {A : Type 0} (p : A → Bool) (xs : List A) (place : ℕ) (x : A) → slice_get xs place ≡ Some x → p x ≡ true → list_any p xs ≡ true
any_at p [] place x e is = absurd cc
any_at p (y ∷ ys) zero x e is =
    let same : y ≡ x = cc in
    either_first (p y) (list_any p ys) (ap p same ∙ is)
any_at p (y ∷ ys) (suc place) x e is = either_second (p y) (list_any p ys) (any_at p ys place x e is)

-- what is so of a state in its place is so of one of the ports
there : (p : PortState → Bool) (ports : List PortState) (number : ℕ) (state : PortState) → port_at ports number ≡ Some state → p state ≡ true
    → list_any p ports ≡ true
there p ports number state e is = by (number == 0) e
  where
    by : (b : Bool) → (if b then None else slice_get ports (number - 1)) ≡ Some state → list_any p ports ≡ true
    by true e = absurd cc
    by false e = any_at p ports (number - 1) state e is

module _ (relay : Relay) (m : Message) where
  delivered_fine : (mac : List ℕ) (npdu : Fields) (state : PortState)
      → ((p : PortState → Bool) → p state ≡ true → list_any p relay.ports ≡ true) → AllFine relay m (delivered relay.format mac npdu state)
  unfolding AllFine
  delivered_fine mac npdu state known = by (length mac == 0) (length mac == 6) (belongs relay.format state (address_in mac)) refl
    where
      inside : belongs relay.format state (address_in mac) ≡ true → (s : Sending) → s.port ≡ state.port.number → s.to ≡ address_in mac
          → Reaches relay m s
      inside is s port to =
          Inside (known (λ l. l.port.number == s.port && belongs relay.format l s.to)
          (both (state.port.number == s.port) (belongs relay.format state s.to) (eq-eqb state.port.number s.port (sym port))
          (ap (belongs relay.format state) to ∙ is)))

      by : (one six here : Bool) → belongs relay.format state (address_in mac) ≡ here
          → AllByRecursion (Fine relay m) (if one then broadcast npdu state else if six && here then unicast state.port.number (address_in mac) npdu else [])
      by true six here e = broadcast_fine relay m npdu state
      by false false here e = tt
      by false true false e = tt
      by false true true e = unicast_fine relay m state.port.number (address_in mac) npdu (λ s port to only. inside e s port to)

  at_fine : (mac : List ℕ) (npdu : Fields) (number : ℕ) (found : Option PortState) → port_at relay.ports number ≡ found
      → AllFine relay m (option_map_or (delivered relay.format mac npdu) found [])
  unfolding AllFine
  at_fine mac npdu number None e = tt
  at_fine mac npdu number (Some state) e = delivered_fine mac npdu state (λ p is. there p relay.ports number state e is)

-- ---- to a router

routed_any : (p : Route → Bool) (routes : Routed) (net : ℕ) (route : Route) → lookup (nat_eq net) routes ≡ Some route → p route ≡ true
    → list_any (λ r. p r.1) routes ≡ true
routed_any p [] net route e is = absurd cc
routed_any p (r ∷ routes) net route e is = by (λ f. routed_any p routes net route f is) (nat_eq net r.0) e
  where
    by : (lookup (nat_eq net) routes ≡ Some route → list_any (λ r. p r.1) routes ≡ true) → (b : Bool)
        → (if b then Some r.1 else lookup (nat_eq net) routes) ≡ Some route → (p r.1 || list_any (λ r. p r.1) routes) ≡ true
    by more true e =
        let same : r.1 ≡ route = cc in
        either_first (p r.1) (list_any (λ r. p r.1) routes) (ap p same ∙ is)
    by more false e = either_second (p r.1) (list_any (λ r. p r.1) routes) (more e)

module _ (t : Table) (route : Route) (p : Route → Bool) (is : p route ≡ true) where
  Known : Type 0
  Known = list_any (λ r. p r.1) (t.configured ++ t.learned) ≡ true

  known_by : (net : ℕ) (configured learned : Option Route) → route_of t.configured net ≡ configured → route_of t.learned net ≡ learned
      → option_map_or ways.Router configured (option_map_or ways.Router learned ways.Unknown) ≡ ways.Router route → Known
  unfolding Known
  known_by net (Some r) learned e f w =
      let same : r ≡ route = cc in
      list_any-append (λ r. p r.1) t.configured t.learned
      ∙ either_first _ _ (routed_any p t.configured net route (e ∙ ap (λ (x : Route). Some x) same) is)
  known_by net None (Some r) e f w =
      let same : r ≡ route = cc in
      list_any-append (λ r. p r.1) t.configured t.learned
      ∙ either_second _ _ (routed_any p t.learned net route (f ∙ ap (λ (x : Route). Some x) same) is)
  known_by net None None e f w = absurd cc

  known_in : (net : ℕ) (place : Option ℕ)
      → option_map_or (direct_way t.direct) place
      (option_map_or ways.Router (route_of t.configured net) (option_map_or ways.Router (route_of t.learned net) ways.Unknown)) ≡ ways.Router route
      → Known
  known_in net None w = known_by net (route_of t.configured net) (route_of t.learned net) refl refl w
  known_in net (Some place) w = by (place + 1 == length t.direct) w
    where
      by : (b : Bool) → (if b then ways.Device else ways.Port (place + 1)) ≡ ways.Router route → Known
      by true w = absurd cc
      by false w = absurd cc

  known_router : (net : ℕ) → way t net ≡ ways.Router route → Known
  known_router net w = by (net == EVERYWHERE) (network_of net) w
    where
      by : (b : Bool) (number : Option ℕ) → (if b then ways.Everywhere else option_map_or (network_way t) number ways.Unknown) ≡ ways.Router route
          → Known
      by true number w = absurd cc
      by false None w = absurd cc
      by false (Some n) w = known_in n (position (nat_eq n) t.direct) w

-- ---- all ways

module _ (relay : Relay) (m : Message) where
  routed_fine : (d : Destination) (route : Route) → way relay.routes d.address.network ≡ ways.Router route
      → AllFine relay m (forward relay m d (ways.Router route))
  unfolding Known
  routed_fine d route w =
      fine_if relay m (has_hops d) _ (unicast_fine relay m route.port route.next (next_hop m)
      (λ s port to only. ToRouter (known_router relay.routes route (λ r. r.port == s.port && same r.next s.to)
      (both (route.port == s.port) (same route.next s.to) (eq-eqb route.port s.port (sym port))
      (ap (same route.next) to ∙ own route.next)) d.address.network w)))

  rejected_fine : (d : Destination) → bound_for m.npdu ≡ Some d.address.network → AllFine relay m (forward relay m d ways.Unknown)
  unfolding AllFine
  rejected_fine d bound = by (is_kind RejectMessageToNetwork m.npdu.payload)
    where
      network : ℕ
      network = d.address.network

      by : (b : Bool) → AllFine relay m (if b then [] else unicast m.here.port.number m.link (reject network m.npdu)
          ++ flat_map (broadcast (who_is_router None network)) (others m.here.port.number relay.ports))
      by true = tt
      by false =
          both_fine relay m (unicast m.here.port.number m.link (reject network m.npdu))
          (flat_map (broadcast (who_is_router None network)) (others m.here.port.number relay.ports))
          (unicast_fine relay m m.here.port.number m.link (reject network m.npdu) (λ s port to only. Rejected network bound only))
          (each_fine relay m (broadcast (who_is_router None network)) (broadcast_fine relay m (who_is_router None network)) (others m.here.port.number relay.ports))

  forward_fine : (d : Destination) (by : Way) → bound_for m.npdu ≡ Some d.address.network → way relay.routes d.address.network ≡ by
      → AllFine relay m (forward relay m d by)
  unfolding AllFine
  forward_fine d (ways.Port number) bound w = at_fine relay m d.address.mac (last_hop m) number (port_at relay.ports number) refl
  forward_fine d (ways.Router route) bound w = routed_fine d route w
  forward_fine d ways.Unknown bound w = rejected_fine d bound
  forward_fine d ways.Device bound w = tt
  forward_fine d ways.Everywhere bound w = tt

  AllStepsFine : List Step → Type 0
  AllStepsFine steps = AllByRecursion (λ s. AllFine relay m s.sends) steps

  allowed_fine : (rules : List Rule) (steps : List Step) → AllStepsFine steps → AllFine relay m (sends_of rules steps)
  unfolding AllStepsFine AllFine
  allowed_fine rules [] f = tt
  allowed_fine rules (s ∷ steps) f =
      both_fine relay m (allowed_sends rules s) (sends_of rules steps)
      (fine_if relay m (list_all (allows rules) s.asks) s.sends f.0) (allowed_fine rules steps f.1)

  copies_fine : (d : Destination) (ports : List PortState) → AllStepsFine (map (copy relay.format m d) ports)
  unfolding AllStepsFine
  copies_fine d [] = tt
  copies_fine d (state ∷ ports) = (fine_if relay m (has_hops d) _ (broadcast_fine relay m (next_hop m) state), copies_fine d ports)

  one_if : (b : Bool) (s : Step) → AllFine relay m s.sends → AllStepsFine (if b then s ∷ [] else [])
  unfolding AllStepsFine
  one_if true s f = (f, tt)
  one_if false s f = tt

  steps_fine : (d : Destination) (by : Way) → bound_for m.npdu ≡ Some d.address.network → way relay.routes d.address.network ≡ by
      → AllStepsFine (steps_by relay m d by)
  unfolding AllStepsFine
  steps_fine d ways.Everywhere bound w = copies_fine d (others m.here.port.number relay.ports)
  steps_fine d (ways.Port number) bound w = one_if (leaves m.here.port.number (ways.Port number)) _ (forward_fine d (ways.Port number) bound w)
  steps_fine d (ways.Router route) bound w = one_if (leaves m.here.port.number (ways.Router route)) _ (forward_fine d (ways.Router route) bound w)
  steps_fine d ways.Unknown bound w = (forward_fine d ways.Unknown bound w, tt)
  steps_fine d ways.Device bound w = tt

  route_fine : AllStepsFine (route_steps relay m)
  unfolding AllStepsFine
  route_fine = by (is_local m.npdu.payload) m.npdu.destination refl
    where
      by : (b : Bool) (d : Option Destination) → m.npdu.destination ≡ d
          → AllByRecursion (λ s. AllFine relay m s.sends)
          (if b then [] else option_map_or (λ d. steps_by relay m d (way relay.routes d.address.network)) d [])
      by true d e = tt
      by false None e = tt
      by false (Some d) e =
          steps_fine d (way relay.routes d.address.network) (ap (λ (x : Option Destination). option_map (λ d. d.address.network) x) e) refl

pub nothing_is_delivered_outside : NothingIsDeliveredOutside
unfolding AllFine Fine
nothing_is_delivered_outside rules relay m = allowed_fine relay m rules (route_steps relay m) (route_fine relay m)
