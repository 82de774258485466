-- No event routes to the device's network, or asks to enter for a station of its port.
use Rattle.std.proofs.Common.{◌≡◌, ◌≢◌, ◌≤◌, ◌<◌, ◌⊎◌, ◌∙◌, inl, inr, sym, ap, ap₂, refl, subst, ℕ, suc, ◌+◌, ◌*◌, ◌^◌, Bool, true, false, List, [], ◌∷◌, ◌++◌, length, map, nat_eq, nat_le, nat_lt, append_assoc, Option, Some, None, arith}
use Rattle.std.specs.Prelude.{◌==◌, ◌||◌, ◌&&◌, not, if◌then◌else◌, ⊤, position}
use Rattle.std.specs.Cmp.Lexicographic.{pointwise, same_text}
use Rattle.std.specs.Int.{from_be_bytes, to_be_bytes, w16, w32}
use Rattle.std.specs.List.{AllByRecursion, list_any, position_or_len}
use Rattle.std.specs.Map.{keys_of as routes_keys}
use Rattle.std.specs.Option.{option_map_or}
use Rattle.std.proofs.lemmas.Bool.{and_parts, eqb-false, eq-eqb, eqb-true, le-leb, lt-ltb, or_parts}
use Rattle.gw_addr.specs.declared.bip.BipAddr.{BipAddr}
use Rattle.gw_addr.specs.Address.{IsAddress, big_endian, octets_of}
use Rattle.gw_addr.specs.Station.{is_network}
use Rattle.gw_configuration.specs.Assertion.{is_meant}
use Rattle.gw_configuration.specs.Configuration.{Configuration}
use Rattle.gw_configuration.specs.Duplicates.{has_duplicates}
use Rattle.gw_configuration.specs.Subnet.{IsSubnet, Subnet, keys_of, subnet_holds}
use Rattle.gw_configuration.specs.declared.port.Port.{Port as ConfiguredPort}
use Rattle.gw_configuration.proofs.Keys.{holds_key}
use Rattle.gw_codecs.specs.services.Choices.{read_property, who_has, who_is, write_property}
use Rattle.gw_device.specs.Asks.{property_ask}
use Rattle.gw_device.specs.Multi.{multi_ask}
use Rattle.gw_device.specs.declared.context.Context.{Context}
use Rattle.gw_objects.specs.Objects.{Database, device_id}
use Rattle.gw_objects.specs.declared.property.Property.TheVariants.{ObjectIdentifier, ObjectName}
use Rattle.gw_objects.specs.declared.configured.Configured.{Configured}
use Rattle.gw_objects.specs.Property.{properties, property_number}
use Rattle.gw_relay.specs.Asks as table
use Rattle.gw_relay.specs.Cast.{cast_ask}
use Rattle.gw_relay.specs.Entry.{claim_ask, enter_ask, enters, entry_asks, is_stranger}
use Rattle.gw_relay.specs.Initial.{direct_of, port_of, routed_of}
use Rattle.gw_relay.specs.Message.{Message}
use Rattle.gw_relay.specs.Manage.{learn_ask, network_ask}
use Rattle.gw_relay.specs.Named.{named_ask, unnamed_ask}
use Rattle.gw_relay.specs.Route.{route_ask}
use Rattle.gw_relay.specs.State.{Relay, is_manager}
use Rattle.gw_relay.specs.Stations.{belongs, is_station}
use Rattle.gw_relay.specs.Stations.{is_reserved as is_relay_reserved}
use Rattle.gw_relay.specs.declared.port.Port.{Port}
use Rattle.gw_relay.specs.declared.port.PortState.{PortState}
use Rattle.gw_relay.proofs.Configured.{distinct_networks}
use Rattle.gw_relay.proofs.SourceKeys.{node_key}
use Rattle.gw_rules.specs.Ask.{Ask}
use Rattle.gw_rules.specs.Format.{key_in, names_stations}
use Rattle.gw_rules.specs.Operation.{operation_number}
use Rattle.gw_rules.specs.Range.{holds}
use Rattle.gw_rules.specs.RuleList.{allows}
use Rattle.gw_rules.specs.declared.format.Format.{Format}
use Rattle.gw_rules.specs.declared.operation.Operation.{Operation}
use Rattle.gw_rules.specs.declared.operation.Operation.TheVariants as operations
use Rattle.gw_rules.specs.declared.rule.Rule.{Rule}
use Rattle.gw_rules.specs.declared.service.Service.TheVariants.{Confirmed, Unconfirmed}
use Rattle.gw_rules.proofs.EachAsk.{each_weaker}
use Rattle.gw_frames.specs.bvll.Bvll.{Message as Frame}
use Rattle.gw_frames.specs.bvll.Bvll as bvll
use Rattle.gw_script.specs.Event.{Event}
use Rattle.gw_tables.specs.bdt_fdt.Registrations.{contains, same}
use Rattle.gw_tables.proofs.bdt_fdt_lemmas.Words.{same_is_equal}
use Rattle.gw_tables.specs.declared.routes.route.Way.{Way}
use Rattle.gw_tables.specs.declared.routes.route.Way.TheVariants as ways
use Rattle.gw_tables.specs.routes.Table.{Table, are_distinct, direct_way, network_way, route_of, way}
use Rattle.gw_core.specs.Asks.{apdu_asks, asks, asks_for}
use Rattle.gw_core.specs.Receive.{Received, barred, dropped, managed, message, receive, unregistered}
use Rattle.gw_core.specs.Reply.{apdu_for, context_of}
use Rattle.gw_core.specs.State.{State, device_network}
use Rattle.gw_core.proofs.RespondLemmas.{four_none}
use Rattle.gw_core_laws.proofs.Whence.{Heard, IsHeard, heard_at}
use Rattle.gw_ask_sets.specs.shapes.Shape.{LiesInOne}
use Rattle.gw_ask_sets.specs.shapes.Shapes.{shapes}
use Rattle.gw_ask_sets.specs.assertions.Asserted.{LiesInAsserted, belongs_by, enters_home, host_keys, is_home, is_homeward, is_number, is_reserved, is_unraised}
use Rattle.gw_verdicts.specs.Asserted.{AsksAreJudged, EmptyMeansNone, HoldingIsTrue}
use Rattle.gw_verdicts.specs.Laws.{IsCarried, IsNumbered, HasSubnets}
use Rattle.gw_verdicts.specs.States.{ArePortsOf, IsStateUnder}
use Rattle.gw_verdicts.proofs.Brought.{Brought, IsBrought, brought_at}
use Rattle.gw_verdicts.proofs.DeviceAsks.{DeviceCases, DeviceKnown, each_device}
use Rattle.gw_verdicts.proofs.Knowing.{Known, each_unknown, nothing_known, sought_unknown}
use Rattle.gw_verdicts.proofs.Parts.{each_entry, each_part}
use Rattle.gw_verdicts.proofs.RelayAsks.{CastCases, NamedCases, NetworkCases, Reached, RouteCases, each_cast, each_network, each_route}
use Rattle.gw_verdicts.proofs.ShapeLaw.{asks_lie_in_shapes}

-- ---- asks of other operations

none_enters : (number : ℕ) (ports : List ConfiguredPort) (ask : Ask) → is_number (operation_number operations.Enter) ask.operation ≡ false
    → enters_home number ports ask ≡ false
none_enters number [] ask other = refl
none_enters number (p ∷ ports) ask other =
    ap₂ (λ (a b : Bool). a || b) (ap (λ (b : Bool). b && (is_number number ask.port && is_home p ask.source_key)) other)
    (none_enters (number + 1) ports ask other)

-- an ask neither to route nor to enter
unraised_other : (c : Configuration) (ask : Ask) → is_number (operation_number operations.Route) ask.operation ≡ false
    → is_number (operation_number operations.Enter) ask.operation ≡ false → is_unraised c ask ≡ false
unraised_other c ask route enter =
    ap₂ (λ (a b : Bool). a || b) (ap (λ (b : Bool). b && is_number c.device.network ask.destination_network) route) (none_enters 1 c.ports ask enter)

-- an ask to route to another network
unraised_route : (c : Configuration) (format : Format) (m : Message) (network : ℕ) → network ≢ c.device.network
    → is_unraised c (route_ask format m (Some network)) ≡ false
unraised_route c format m network other =
    ap₂ (λ (a b : Bool). a || b) (not_it network c.device.network other) (none_enters 1 c.ports (route_ask format m (Some network)) refl)
  where
    not_it : (n d : ℕ) → n ≢ d → (n == d) ≡ false
    not_it n d other = by (n == d) refl
      where
        by : (b : Bool) → (n == d) ≡ b → b ≡ false
        by true e = absurd (other (eqb-true n d e))
        by false e = refl

-- ---- who belongs to a port

-- the port of this number, with its stations, is one of the configured ones
IsAmong : ℕ → List ConfiguredPort → PortState → Type 0
IsAmong number [] state = ⊥
IsAmong number (p ∷ ports) state = ((state.port ≡ port_of number p) × (state.stations ≡ p.stations)) ⊎ IsAmong (number + 1) ports state

each_among : (number : ℕ) (ports : List ConfiguredPort) (states : List PortState) → ArePortsOf number ports states
    → AllByRecursion (λ state. IsAmong number ports state) states
unfolding IsAmong
each_among number [] [] are = tt
each_among number [] (state ∷ states) are = absurd are
each_among number (p ∷ ports) [] are = absurd are
each_among number (p ∷ ports) (state ∷ states) are = (
  inl (are.0, are.1),
  each_weaker (λ (other : PortState). IsAmong (number + 1) ports other) (λ (other : PortState). IsAmong number (p ∷ ports) other)
      (λ other there. inr there) states (each_among (number + 1) ports states are.2),
)

among_at : (number : ℕ) (ports : List ConfiguredPort) (state : PortState) → IsAmong number ports state → number ≤ state.port.number
unfolding IsAmong
among_at number [] state there = absurd there
among_at number (p ∷ ports) state (inl is) =
    let at : state.port.number ≡ number = ap (λ (q : Port). q.number) is.0 in
    omega (arith, at)
among_at number (p ∷ ports) state (inr later) =
    let next = among_at (number + 1) ports state later in
    omega (arith, next)

-- the key of an address, by its IPv4 address and its port
key_parts : (ip : List ℕ) (udp : ℕ) → length ip ≡ 4 → udp < 2 ^ 16 → big_endian (ip ++ to_be_bytes w16 udp) ≡ from_be_bytes w32 ip * 65536 + udp
key_parts [] udp len small = absurd (omega arith)
key_parts (a ∷ []) udp len small = absurd (omega arith)
key_parts (a ∷ b ∷ []) udp len small = absurd (omega arith)
key_parts (a ∷ b ∷ c ∷ []) udp len small = absurd (omega arith)
key_parts (a ∷ b ∷ c ∷ d ∷ []) udp len small = omega arith
key_parts (a ∷ b ∷ c ∷ d ∷ e ∷ ip) udp len small = absurd (omega arith)

-- the key of a reserved address is reserved
reserved_so : (number : ℕ) (p : ConfiguredPort) (a : BipAddr) → IsAddress a → is_relay_reserved (port_of number p) a ≡ true
    → is_reserved p (big_endian (octets_of a)) ≡ true
reserved_so number p a is = by (same a p.address) (pointwise nat_eq a.ip p.broadcast.ip) refl refl
  where
    key : ℕ
    key = big_endian (octets_of a)

    or_true : (x y : Bool) → y ≡ true → (x || y) ≡ true
    or_true true y e = refl
    or_true false y e = e

    by : (own sent : Bool) → same a p.address ≡ own → pointwise nat_eq a.ip p.broadcast.ip ≡ sent → (own || sent) ≡ true
        → is_reserved p (big_endian (octets_of a)) ≡ true
    by true sent o s e =
        let at : a ≡ p.address = (same_is_equal a p.address).0 o in
        ap (λ (b : Bool). b || holds (big_endian (octets_of a)) (host_keys p.broadcast))
        (eq-eqb (big_endian (octets_of a)) (big_endian (octets_of p.address)) (ap (λ (x : BipAddr). big_endian (octets_of x)) at))
    by false true o s e =
        let ip : a.ip ≡ p.broadcast.ip = same_text a.ip p.broadcast.ip (sym s) in
        let parts : big_endian (octets_of a) ≡ from_be_bytes w32 a.ip * 65536 + a.udp = key_parts a.ip a.udp is.four is.udp in
        let there : from_be_bytes w32 a.ip ≡ from_be_bytes w32 p.broadcast.ip = ap (from_be_bytes w32) ip in
        let udp = is.udp in
        let low : from_be_bytes w32 p.broadcast.ip * 65536 ≤ big_endian (octets_of a) = omega (arith, parts, there) in
        let high : big_endian (octets_of a) ≤ from_be_bytes w32 p.broadcast.ip * 65536 + 65535 = omega (arith, parts, there, udp) in
        or_true (big_endian (octets_of a) == big_endian (octets_of p.address)) (holds (big_endian (octets_of a)) (host_keys p.broadcast))
        (ap₂ (λ (x y : Bool). x && y) (le-leb _ _ low) (le-leb _ _ high))
    by false false o s e = absurd cc

stations_so : (stations : List Subnet) (a : BipAddr) → IsAddress a → AllByRecursion IsSubnet stations
    → list_any (λ s. holds (big_endian (octets_of a)) (keys_of s)) stations ≡ list_any (λ s. subnet_holds s a) stations
stations_so [] a is are = refl
stations_so (s ∷ stations) a is are =
    ap₂ (λ (x y : Bool). x || y) (sym (holds_key s a are.0 is)) (stations_so stations a is are.1)

-- an address that is no station of a port doesn't belong by its key
belongs_not : (number : ℕ) (p : ConfiguredPort) (a : BipAddr) → IsAddress a → AllByRecursion IsSubnet p.stations
    → is_station (port_of number p) p.stations a ≡ false → belongs_by p (big_endian (octets_of a)) ≡ false
belongs_not number p a is are =
    by (list_any (λ s. subnet_holds s a) p.stations) (is_relay_reserved (port_of number p) a) refl refl
  where
    by : (held out : Bool) → list_any (λ s. subnet_holds s a) p.stations ≡ held → is_relay_reserved (port_of number p) a ≡ out
        → (held && not out) ≡ false → belongs_by p (big_endian (octets_of a)) ≡ false
    by false out h o e = ap (λ (b : Bool). b && not (is_reserved p (big_endian (octets_of a)))) (stations_so p.stations a is are ∙ h)
    by true true h o e =
        ap₂ (λ (x y : Bool). x && not y) (stations_so p.stations a is are ∙ h) (reserved_so number p a is o)
    by true false h o e = absurd cc

-- who doesn't belong to a port isn't at home there
home_not : (format : Format) (number : ℕ) (p : ConfiguredPort) (state : PortState) (a : BipAddr) → IsAddress a → AllByRecursion IsSubnet p.stations
    → state.port ≡ port_of number p → state.stations ≡ p.stations → belongs format state a ≡ false
    → is_home p (key_in format (octets_of a)) ≡ false
home_not format number p state a is are port stations none =
    let first = or_parts (not (names_stations format) || length state.stations == 0 || is_station state.port state.stations a) (contains state.fdt a) none in
    let second = or_parts (not (names_stations format) || length state.stations == 0) (is_station state.port state.stations a) first.0 in
    let third = or_parts (not (names_stations format)) (length state.stations == 0) second.0 in
    let empty : (length p.stations == 0) ≡ false = ap (λ (l : List Subnet). length l == 0) (sym stations) ∙ third.1 in
    let strange : is_station (port_of number p) p.stations a ≡ false =
    ap₂ (λ (q : Port) (l : List Subnet). is_station q l a) (sym port) (sym stations) ∙ second.1 in
    ap₂ (λ (x y : Bool). x || y) empty
    (ap (λ (k : Option ℕ). option_map_or (belongs_by p) k false) (node_key format a is.four) ∙ belongs_not number p a is are strange)

-- ---- an ask to enter

-- a port of another number than the ask's isn't entered by it
other_port : (p : ConfiguredPort) (key : Option ℕ) (number at : ℕ) → at ≢ number → ((at == number) && is_home p key) ≡ false
other_port p key number at other = by (at == number) refl
  where
    by : (b : Bool) → (at == number) ≡ b → (b && is_home p key) ≡ false
    by true e = absurd (other (eqb-true at number e))
    by false e = refl

-- nor is one with a higher number
enters_above : (number : ℕ) (ports : List ConfiguredPort) (format : Format) (m : Message) → m.here.port.number < number
    → enters_home number ports (enter_ask format m) ≡ false
enters_above number [] format m above = refl
enters_above number (p ∷ ports) format m above =
    ap₂ (λ (a b : Bool). a || b) (other_port p (enter_ask format m).source_key number m.here.port.number (λ e. absurd (omega (arith, above, e))))
    (enters_above (number + 1) ports format m (omega (arith, above)))

and_none : (x y : Bool) → y ≡ false → (x && y) ≡ false
and_none true y e = e
and_none false y e = refl

enters_not : (number : ℕ) (ports : List ConfiguredPort) (format : Format) (m : Message) → IsAddress m.link → AllByRecursion HasSubnets ports
    → IsAmong number ports m.here → belongs format m.here m.link ≡ false → enters_home number ports (enter_ask format m) ≡ false
unfolding IsAmong
enters_not number [] format m is are there none = absurd there
enters_not number (p ∷ ports) format m is are (inl here) none =
    let at : m.here.port.number ≡ number = ap (λ (q : Port). q.number) here.0 in
    ap₂ (λ (a b : Bool). a || b)
    (and_none (m.here.port.number == number) (is_home p (key_in format (octets_of m.link))) (home_not format number p m.here m.link is are.0 here.0 here.1 none))
    (enters_above (number + 1) ports format m (omega (arith, at)))
enters_not number (p ∷ ports) format m is are (inr later) none =
    let low = among_at (number + 1) ports m.here later in
    ap₂ (λ (a b : Bool). a || b) (other_port p (key_in format (octets_of m.link)) number m.here.port.number (λ e. absurd (omega (arith, low, e))))
    (enters_not (number + 1) ports format m is are.1 later none)

unraised_enter : (c : Configuration) (format : Format) (m : Message) → IsAddress m.link → AllByRecursion HasSubnets c.ports → IsAmong 1 c.ports m.here
    → is_stranger format m ≡ true → is_unraised c (enter_ask format m) ≡ false
unraised_enter c format m is are there strange =
    let both = and_parts (enters m.frame) (not (belongs format m.here m.link)) strange in
    ap (λ (b : Bool). false || b) (enters_not 1 c.ports format m is are there (by (belongs format m.here m.link) both.1))
  where
    by : (b : Bool) → not b ≡ true → b ≡ false
    by true e = absurd cc
    by false e = refl

-- ---- the way to the device's network

-- a network that isn't in front stands behind
behind : (front : List ℕ) (net : ℕ) → AllByRecursion (λ n. n ≢ net) front → position_or_len (nat_eq net) (front ++ net ∷ []) ≡ length front
behind [] net apart = ap (λ (b : Bool). if not b then 1 + 0 else 0) (eq-eqb net net refl)
behind (n ∷ front) net apart =
    let same : 1 + length front ≡ length (n ∷ front) = omega arith in
    ap₂ (λ (b : Bool) (k : ℕ). if not b then 1 + k else 0) (unequal net n (λ e. apart.0 (sym e))) (behind front net apart.1) ∙ same
  where
    unequal : (x y : ℕ) → x ≢ y → nat_eq x y ≡ false
    unequal x y other = by (nat_eq x y) refl
      where
        by : (b : Bool) → nat_eq x y ≡ b → b ≡ false
        by true e = absurd (other (eqb-true x y e))
        by false e = refl

length_behind : (front : List ℕ) (net : ℕ) → length (front ++ net ∷ []) ≡ length front + 1
length_behind [] net = refl
length_behind (n ∷ front) net =
    let same : suc (length front + 1) ≡ length (n ∷ front) + 1 = omega arith in
    ap suc (length_behind front net) ∙ same

way_home : (t : Table) (front : List ℕ) (net : ℕ) → t.direct ≡ front ++ net ∷ [] → AllByRecursion (λ n. n ≢ net) front → is_network net ≡ true
    → nat_eq net 65535 ≡ false → way t net ≡ ways.Device
way_home t front net direct apart is other =
    let many = length_behind front net in
    let routed : Way =
    option_map_or ways.Router (route_of t.configured net) (option_map_or ways.Router (route_of t.learned net) ways.Unknown) in
    let at : position (nat_eq net) t.direct ≡ Some (length front) =
    ap (λ (l : List ℕ). position (nat_eq net) l) direct
    ∙ ap₂ (λ (n k : ℕ). if nat_lt n k then Some n else None) (behind front net apart) many
    ∙ ap (λ (b : Bool). if b then Some (length front) else None) (lt-ltb (length front) (length front + 1) (omega arith)) in
    let last : direct_way t.direct (length front) ≡ ways.Device =
    ap (λ (b : Bool). if b then ways.Device else ways.Port (length front + 1))
    (eq-eqb (length front + 1) (length t.direct) (sym (ap length direct ∙ many))) in
    ap (λ (b : Bool). if b then ways.Everywhere else option_map_or (network_way t) (if is_network net then Some net else None) ways.Unknown) other
    ∙ ap (λ (b : Bool). option_map_or (network_way t) (if b then Some net else None) ways.Unknown) is
    ∙ ap (λ (place : Option ℕ). option_map_or (direct_way t.direct) place routed) at
    ∙ last

-- ---- what is known of a configuration

-- networks without one twice, of which one is the last
apart_of : (front : List ℕ) (net : ℕ) (rest : List ℕ) → are_distinct (front ++ net ∷ rest) ≡ true → AllByRecursion (λ n. n ≢ net) front
apart_of [] net rest distinct = tt
apart_of (n ∷ front) net rest distinct =
    let both = and_parts (not (list_any (nat_eq n) (front ++ net ∷ rest))) (are_distinct (front ++ net ∷ rest)) distinct in
    (λ e. none front n e both.0, apart_of front net rest both.1)
  where
    found : (front : List ℕ) (n : ℕ) → n ≡ net → list_any (nat_eq n) (front ++ net ∷ rest) ≡ true
    found [] n e = ap (λ (b : Bool). b || list_any (nat_eq n) rest) (eq-eqb n net e)
    found (x ∷ front) n e = or_true (nat_eq n x) (list_any (nat_eq n) (front ++ net ∷ rest)) (found front n e)
      where
        or_true : (x y : Bool) → y ≡ true → (x || y) ≡ true
        or_true true y e = refl
        or_true false y e = e

    none : (front : List ℕ) (n : ℕ) → n ≡ net → not (list_any (nat_eq n) (front ++ net ∷ rest)) ≡ true → ⊥
    none front n e not_there = let there = found front n e in absurd (by (list_any (nat_eq n) (front ++ net ∷ rest)) there not_there)
      where
        by : (b : Bool) → b ≡ true → not b ≡ true → ⊥
        by true t f = cc
        by false t f = cc

-- the ports aren't on the device's network
ports_apart : (c : Configuration) → IsNumbered c → AllByRecursion (λ n. n ≢ c.device.network) (map (λ p. p.network) c.ports)
ports_apart c numbered =
    apart_of (map (λ p. p.network) c.ports) c.device.network keys
    (sym (ap are_distinct (append_assoc (map (λ p. p.network) c.ports) (c.device.network ∷ []) keys)) ∙ distinct_networks c numbered.once)
  where
    keys : List ℕ
    keys = routes_keys (map routed_of c.routes)

states_apart : (c : Configuration) (number : ℕ) (ports : List ConfiguredPort) (states : List PortState)
    → AllByRecursion (λ n. n ≢ c.device.network) (map (λ p. p.network) ports)
    → ArePortsOf number ports states → AllByRecursion (λ state. state.port.network ≢ c.device.network) states
states_apart c number [] [] apart are = tt
states_apart c number [] (state ∷ states) apart are = absurd are
states_apart c number (p ∷ ports) [] apart are = absurd are
states_apart c number (p ∷ ports) (state ∷ states) apart are = (
  λ e. apart.0 (sym (ap (λ (q : Port). q.network) are.0) ∙ e),
  states_apart c (number + 1) ports states apart.1 are.2,
)

-- nothing is known but of networks: that they aren't the device's
apart_known : ℕ → Known
apart_known device = record {
  IsText = λ octets. ⊤;
  IsThing = λ o. ⊤;
  IsNamed = λ o p. ⊤;
  IsRank = λ n. ⊤;
  IsNet = λ n. n ≢ device;
  rest = λ octets a fits e. tt;
  read = λ body r fits e. tt;
  multi = λ body rs fits e. each_unknown rs;
  write = λ body w fits e. (tt, tt);
  who_has = λ body w fits e. sought_unknown w.sought;
}

-- ---- all asks of a message

abbrev Unraised : Configuration → Ask → Type 0
Unraised c ask = is_unraised c ask ≡ false

named_unraised : (c : Configuration) (K : Known) (route : Ask) → NamedCases (Unraised c) K route
named_unraised c K route = record {
  unnamed_read = λ service at reading. unraised_other c (unnamed_ask route operations.Read) refl refl;
  named_read = λ service at reading object p known. unraised_other c (named_ask route operations.Read object p None) refl refl;
  unnamed_write = λ at. unraised_other c (unnamed_ask route operations.Write) refl refl;
  named_write = λ at object p priority known rank. unraised_other c (named_ask route operations.Write object p (Some priority)) refl refl;
}

cast_unraised : (c : Configuration) (format : Format) (m : Message) → CastCases (Unraised c) nothing_known format m
cast_unraised c format m = record {
  cast = unraised_other c (cast_ask format m) refl refl;
  follows = λ names. named_unraised c nothing_known (cast_ask format m);
}

route_unraised : (c : Configuration) (format : Format) (m : Message) → RouteCases (Unraised c) (apart_known c.device.network) format m
unfolding apart_known
route_unraised c format m = record {
  route = λ network other. unraised_route c format m network other;
  follows = λ network other judges. named_unraised c (apart_known c.device.network) (route_ask format m (Some network));
}

network_unraised : (c : Configuration) (format : Format) (m : Message) → NetworkCases (Unraised c) format m
network_unraised c format m = record {
  learn = λ is silent network net. unraised_other c (learn_ask format m network) refl refl;
  question = λ is network net. unraised_other c (network_ask format m network) refl refl;
  number = λ is silent. unraised_other c (network_ask format m None) refl refl;
}

device_unraised : (c : Configuration) (d : Database) (context : Context) → DeviceCases (Unraised c) nothing_known d context
device_unraised c d context = record {
  read = λ object p known. unraised_other c (property_ask operations.Read (Confirmed read_property) d.configured context object p) refl refl;
  multi = λ object p known. unraised_other c (multi_ask d context object p) refl refl;
  write = λ object p priority known rank. unraised_other c
      (record (property_ask operations.Write (Confirmed write_property) d.configured context object p) { priority = Some priority }) refl refl;
  who_is = unraised_other c
      (property_ask operations.List (Unconfirmed who_is) d.configured context (device_id d.configured.device) (property_number ObjectIdentifier)) refl refl;
  who_has = λ object known. unraised_other c
      (property_ask operations.List (Unconfirmed who_has) d.configured context object (property_number ObjectName)) refl refl;
}

all_unknown : {A : Type 0} (xs : List A) → AllByRecursion (λ x. ⊤) xs
all_unknown [] = tt
all_unknown (x ∷ xs) = (tt, all_unknown xs)

own_unknown : (c : Configured) → DeviceKnown nothing_known c
own_unknown c = record {
  device = tt;
  objects = all_unknown c.objects;
  named = λ object p known. tt;
  listed = λ object p kind set known. all_unknown (properties kind set);
}

apdu_unraised : (c : Configuration) (rules : List Rule) (d : Database) (context : Context) (apdu : Option (List ℕ))
    → AllByRecursion (Unraised c) (apdu_asks rules d context apdu)
apdu_unraised c rules d context None = tt
apdu_unraised c rules d context (Some octets) =
    each_device (Unraised c) nothing_known rules d context octets (device_unraised c d context) (own_unknown d.configured) tt

-- the ask, if it is raised
one_if : (c : Configuration) (b : Bool) (ask : Ask) → Unraised c ask → AllByRecursion (Unraised c) (if b then ask ∷ [] else [])
one_if c true ask is = (is, tt)
one_if c false ask is = tt

table_unraised : (c : Configuration) (format : Format) (port : Port) (from : BipAddr) (frame : Frame)
    → AllByRecursion (Unraised c) (table.link_asks format port from frame)
table_unraised c format port from (bvll.write_bdt entries) =
    one_if c (is_manager port) _ (unraised_other c (table.link_ask format port from (bvll.write_bdt entries) operations.WriteTable) refl refl)
table_unraised c format port from bvll.read_bdt =
    one_if c (is_manager port) _ (unraised_other c (table.link_ask format port from bvll.read_bdt operations.ReadTable) refl refl)
table_unraised c format port from (bvll.register time_to_live) =
    one_if c (is_manager port) _ (unraised_other c (table.link_ask format port from (bvll.register time_to_live) operations.Register) refl refl)
table_unraised c format port from bvll.read_fdt =
    one_if c (is_manager port) _ (unraised_other c (table.link_ask format port from bvll.read_fdt operations.ReadTable) refl refl)
table_unraised c format port from (bvll.delete address) =
    one_if c (is_manager port) _ (unraised_other c (table.link_ask format port from (bvll.delete address) operations.Delete) refl refl)
table_unraised c format port from (bvll.result_code code) = tt
table_unraised c format port from (bvll.read_bdt_ack entries) = tt
table_unraised c format port from (bvll.forwarded originator npdu) = tt
table_unraised c format port from (bvll.read_fdt_ack entries) = tt
table_unraised c format port from (bvll.distribute npdu) = tt
table_unraised c format port from (bvll.original_unicast npdu) = tt
table_unraised c format port from (bvll.original_broadcast npdu) = tt

-- what is known of the state
record Stands (c : Configuration) (w : State) : Type 0 where
  numbered : IsNumbered c
  under : IsStateUnder c w

reached_apart : (c : Configuration) (w : State) (m : Message) → Stands c w → Reached (apart_known c.device.network) w.relay m
unfolding apart_known
reached_apart c w m stands = record {
  ports = states_apart c 1 c.ports w.relay.ports (ports_apart c stands.numbered) stands.under.ports;
  bound = λ d is other home e. home (ap (way w.relay.routes) e ∙ homeward);
  text = tt;
}
  where
    unequal : (n : ℕ) → n ≢ 65535 → nat_eq n 65535 ≡ false
    unequal n other = by (nat_eq n 65535) refl
      where
        by : (b : Bool) → nat_eq n 65535 ≡ b → b ≡ false
        by true e = absurd (other (eqb-true n 65535 e))
        by false e = refl

    homeward : way w.relay.routes c.device.network ≡ ways.Device
    homeward =
        let low = stands.numbered.own.0 in
        let high = stands.numbered.own.1 in
        way_home w.relay.routes (map (λ p. p.network) c.ports) c.device.network stands.under.direct (ports_apart c stands.numbered)
        (ap₂ (λ (a b : Bool). a && b) (le-leb 1 c.device.network low) (le-leb c.device.network 65534 high))
        (unequal c.device.network (λ e. absurd (omega (arith, high, e))))

entry_unraised : (c : Configuration) (w : State) (m : Message) → Stands c w → IsAmong 1 c.ports m.here → IsBrought m
    → AllByRecursion (Unraised c) (entry_asks w.rules w.relay m)
entry_unraised c w m stands there brought =
    each_entry (Unraised c) w.rules w.relay m
    (λ strange. unraised_enter c w.relay.format m brought.link stands.numbered.stations there strange)
    (λ speaks. unraised_other c (claim_ask w.relay.format m) refl refl)

abbrev Here : Configuration → PortState → Type 0
Here c state = IsAmong 1 c.ports state

received_unraised : (c : Configuration) (w : State) (received : Received) → Stands c w
    → Heard w.relay.ports (device_network w.device) (Here c) received → Brought received
    → AllByRecursion (Unraised c) (asks_for w.rules w.relay w.device received)
received_unraised c w dropped stands heard brought = tt
received_unraised c w (unregistered m) stands heard brought = tt
received_unraised c w (managed on from frame) stands heard brought =
    subst (AllByRecursion (Unraised c)) (sym (four_none (table.link_asks w.relay.format on.port from frame)))
    (table_unraised c w.relay.format on.port from frame)
received_unraised c w (barred m) stands heard brought =
    subst (AllByRecursion (Unraised c)) (sym (four_none (entry_asks w.rules w.relay m))) (entry_unraised c w m stands heard.port brought)
received_unraised c w (message m) stands heard brought =
    let format = w.relay.format in
    let device = apart_known c.device.network in
    each_part (Unraised c) w.rules w.relay w.device m (entry_unraised c w m stands heard.port brought)
    (each_cast (Unraised c) nothing_known format m (λ managed. cast_unraised c format m) tt)
    (each_route (Unraised c) device w.relay m (route_unraised c format m) (reached_apart c w m stands))
    (each_network (Unraised c) w.relay m (network_unraised c format m))
    (apdu_unraised c w.rules w.device (context_of format (device_network w.device) m) (apdu_for (device_network w.device) m.npdu))

unraised_at : (c : Configuration) (w : State) (e : Event) → Stands c w → IsCarried e → AllByRecursion (Unraised c) (asks w e)
unfolding asks
unraised_at c w e stands carried =
    received_unraised c w (receive w e) stands
    (heard_at w (Here c) e (each_among 1 c.ports w.relay.ports stands.under.ports)) (brought_at w e carried)

-- ---- the laws

both_of : {A : Type 0} (P Q : A → Type 0) (xs : List A) → AllByRecursion P xs → AllByRecursion Q xs → AllByRecursion (λ x. P x × Q x) xs
both_of P Q [] p q = tt
both_of P Q (x ∷ xs) p q = ((p.0, q.0), both_of P Q xs p.1 q.1)

pub asks_are_judged : AsksAreJudged
asks_are_judged c numbered w is e carried =
    both_of (λ ask. LiesInOne (shapes c) ask) (Unraised c) (asks w e) (asks_lie_in_shapes c numbered w is e carried)
    (unraised_at c w e (record { numbered = numbered; under = is }) carried)

pub holding_is_true : HoldingIsTrue
holding_is_true c a steps held numbered w is e carried =
    each_weaker (λ ask. LiesInAsserted c ask) (λ ask. is_meant a ask ≡ true → allows c.rules ask ≡ a.is_allowed)
    (λ ask lies meant. held.each ask (lies, meant)) (asks w e) (asks_are_judged c numbered w is e carried)

pub empty_means_none : EmptyMeansNone
empty_means_none c a steps empty numbered w is e carried =
    each_weaker (λ ask. LiesInAsserted c ask) (λ ask. is_meant a ask ≡ false) (λ ask lies. empty ask lies) (asks w e)
    (asks_are_judged c numbered w is e carried)
