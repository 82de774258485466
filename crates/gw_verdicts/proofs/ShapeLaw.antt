-- Every ask that a gateway raises lies in a shape of its configuration.
use Rattle.std.proofs.Common.{◌≡◌, ◌≢◌, ◌∙◌, inl, inr, sym, ap, refl, subst, ℕ, ◌+◌, ◌≤◌, ◌<◌, Bool, true, false, List, [], ◌∷◌, ◌++◌, length, map, nat_le, Option, Some, None, arith}
use Rattle.std.specs.Prelude.{◌==◌, ◌&&◌, ◌||◌, ◌^◌, not, if◌then◌else◌, IfSome}
use Rattle.std.specs.List.{AllByRecursion, flat_map, list_all, list_any}
use Rattle.std.specs.Option.{option_map_or}
use Rattle.std.proofs.lemmas.Bool.{and_parts, eqb-false, leb-true, or_parts}
use Rattle.gw_addr.specs.declared.bip.BipAddr.{BipAddr}
use Rattle.gw_addr.specs.declared.station.Source.{Source}
use Rattle.gw_addr.specs.Address.{IsAddress}
use Rattle.gw_frames.specs.bvll.Bvll.{HasFields}
use Rattle.gw_frames.specs.bvll.Bvll.{Message as Frame}
use Rattle.gw_frames.specs.npdu.Npdu.{Address, Destination}
use Rattle.gw_configuration.specs.Configuration.{Configuration}
use Rattle.gw_configuration.specs.declared.object.Object.{Object as ConfigurationObject}
use Rattle.gw_configuration.specs.declared.port.Port.{Port as ConfiguredPort}
use Rattle.gw_objects.specs.declared.configured.Configured.{Configured}
use Rattle.gw_objects.specs.declared.configured.ConfiguredObject.{ConfiguredObject}
use Rattle.gw_objects.specs.declared.property.ObjectType.{ObjectType}
use Rattle.gw_objects.specs.declared.property.ObjectType.TheVariants as types
use Rattle.gw_objects.specs.declared.property.ObjectType.TheVariants.{BinaryValue, CharacterStringValue, Device, IntegerValue, MultiStateValue, PositiveIntegerValue}
use Rattle.gw_objects.specs.declared.property.Property.{Property}
use Rattle.gw_objects.specs.declared.property.PropertySet.{PropertySet}
use Rattle.gw_objects.specs.declared.property.PropertySet.TheVariants.{All, Optional, Required}
use Rattle.gw_objects.specs.Identifier.{type_of}
use Rattle.gw_objects.specs.Objects.{configured_of, database_of, device_id, id, object_id_of}
use Rattle.gw_objects.specs.Property.{properties, property_number, type_number}
use Rattle.gw_device.specs.Asks.{named_object}
use Rattle.gw_rules.specs.declared.format.Format.{Format}
use Rattle.gw_relay.specs.Asks as table
use Rattle.gw_relay.specs.Claim.{claimed_by, local_source, remote_source}
use Rattle.gw_relay.specs.Entry.{claim_ask, comes_by_route, enter_ask, enters, entry_asks, is_stranger, speaks_for_others}
use Rattle.gw_relay.specs.Message.{Message}
use Rattle.gw_relay.specs.declared.port.Port.{Port}
use Rattle.gw_relay.specs.declared.port.PortState.{PortState}
use Rattle.gw_relay.specs.State.{Relay, is_manager}
use Rattle.gw_relay.specs.Stations.{is_station}
use Rattle.gw_tables.specs.declared.routes.route.TheConstants.{EVERYWHERE}
use Rattle.gw_rules.specs.Ask.{Ask}
use Rattle.gw_rules.specs.Format.{key_in, names_stations}
use Rattle.gw_rules.specs.declared.field.FieldName.TheVariants as fields
use Rattle.gw_rules.specs.RuleList.{first}
use Rattle.gw_rules.proofs.EachAsk.{each_weaker}
use Rattle.gw_script.specs.Event.{Event}
use Rattle.gw_codecs.specs.services.Limits.{last_property}
use Rattle.gw_codecs.specs.tags.Object.{IsObject, Object}
use Rattle.gw_core.specs.Asks.{asks, asks_for}
use Rattle.gw_core.specs.History.{state_after}
use Rattle.gw_core.specs.Receive.{Received, barred, dropped, managed, message, receive, unregistered}
use Rattle.gw_core.specs.State.{State, device_network}
use Rattle.gw_core.specs.declared.event.Counts.{Counts}
use Rattle.gw_core.proofs.RespondLemmas.{four_none}
use Rattle.gw_core_laws.proofs.Whence.{Heard, InPorts, IsHeard, heard_at, port_bounds}
use Rattle.gw_verdicts.specs.Laws.{AsksLieInShapes, FreshAsksLieInShapes, IsCarried, IsInstance, IsNumbered, IsOnNetwork, NeverFirstNeverDecides}
use Rattle.gw_verdicts.specs.States.{ArePortsOf, IsStateUnder}
use Rattle.gw_ask_sets.specs.shapes.Shape.{IsWithin, LiesInOne, Shape}
use Rattle.gw_ask_sets.specs.shapes.Shapes.{address, any_entrance, claim_shapes, enter_shapes, entrances, entrances_from, foreign, foreign_shapes, gaps, is_manager as is_configured_manager, near_shapes, network, only, own, own_shapes, shapes, shapes_by, shapes_from, shapes_of, shapes_within, source_in, table_shapes}
use Rattle.gw_ask_sets.specs.declared.shapes.shapes.Entrance.{Entrance}
use Rattle.gw_ask_sets.specs.declared.shapes.side.Side.{Side}
use Rattle.gw_ask_sets.proofs.shapes_lemmas.Lying.{in_front, in_rest}
use Rattle.gw_verdicts.proofs.Brought.{Brought, IsBrought, brought_at}
use Rattle.gw_verdicts.proofs.DeviceAsks.{DeviceKnown}
use Rattle.gw_verdicts.proofs.Gaps.{WithinOne, in_gap}
use Rattle.gw_verdicts.proofs.Knowing.{bounds_known}
use Rattle.gw_verdicts.proofs.Octets.{AreNamed, IsPlace, IsStation}
use Rattle.gw_verdicts.proofs.Parts.{each_entry}
use Rattle.gw_verdicts.proofs.RelayAsks.{Reached, everywhere}
use Rattle.gw_verdicts.proofs.StateLaw.{histories_are_under}
use Rattle.gw_ask_sets.proofs.shapes_lemmas.KeyLaw.{source_within}
use Rattle.gw_verdicts.proofs.Raised.{Comes, claim_lies, enter_lies, link_lies, message_lies, near_cases, six_octets}

-- ---- in the list of all shapes

in_own : (format : Format) (device number : ℕ) (ports : List ConfiguredPort) (port : Port) (ask : Ask) → InPorts number ports port
    → LiesInOne (shapes_within format device (own format port.number port.network (is_manager port))) ask
    → LiesInOne (own_shapes format device number ports) ask
in_own format device number [] port ask there lies = absurd there
in_own format device number (p ∷ ports) port ask (inl is) lies =
    let at = subst (λ (q : Port). LiesInOne (shapes_within format device (own format q.number q.network (is_manager q))) ask) is lies in
    in_front (shapes_within format device (own format number p.network (is_configured_manager p))) (own_shapes format device (number + 1) ports) ask at
in_own format device number (p ∷ ports) port ask (inr later) lies =
    in_rest (shapes_within format device (own format number p.network (is_configured_manager p))) (own_shapes format device (number + 1) ports) ask
    (in_own format device (number + 1) ports port ask later lies)

-- the gap that a number is in, whose shapes are among those of all
record InGap (make : Side → List Shape) (sides : List Side) (n : ℕ) : Type 0 where
  side : Side
  within : IsWithin side (Some n)
  lies : (ask : Ask) → LiesInOne (make side) ask → LiesInOne (flat_map make sides) ask

gap_of : (make : Side → List Shape) (sides : List Side) (n : ℕ) → WithinOne sides n → InGap make sides n
gap_of make [] n is = absurd is
gap_of make (side ∷ sides) n (inl here) = record {
  side = side;
  within = here;
  lies = λ ask lies. in_front (make side) (flat_map make sides) ask lies;
}
gap_of make (side ∷ sides) n (inr later) =
    let gap = gap_of make sides n later in record {
      side = gap.side;
      within = gap.within;
      lies = λ ask lies. in_rest (make side) (flat_map make sides) ask (gap.lies ask lies);
    }

-- ---- of what is received

abbrev LiesThere : Format → ℕ → List ConfiguredPort → Ask → Type 0
LiesThere format device ports ask = LiesInOne (shapes_of format device ports) ask

abbrev others : Format → ℕ → List ConfiguredPort → List Shape
others format device ports = flat_map (foreign_shapes format device (entrances ports)) (gaps device ports)

-- what lies in the shapes of a port's own network
here_lies : (format : Format) (device : ℕ) (ports : List ConfiguredPort) (port : Port) (ask : Ask) → InPorts 1 ports port
    → LiesInOne (shapes_within format device (own format port.number port.network (is_manager port))) ask → LiesInOne (shapes_of format device ports) ask
here_lies format device ports port ask there lies =
    in_front (own_shapes format device 1 ports) (others format device ports) ask (in_own format device 1 ports port ask there lies)

managed_lies : (format : Format) (device : ℕ) (ports : List ConfiguredPort) (port : Port) (from : BipAddr) (frame : Frame) → InPorts 1 ports port
    → IsAddress from → HasFields frame → AllByRecursion (LiesThere format device ports) (table.link_asks format port from frame)
managed_lies format device ports port from frame there is fits =
    let at = own format port.number port.network (is_manager port) in
    each_weaker (LiesInOne (table_shapes format at)) (LiesThere format device ports)
    (λ ask lies. here_lies format device ports port ask there
    (in_front (table_shapes format at) (enter_shapes format at ++ (near_shapes at ++ shapes_from format device at)) ask lies))
    (table.link_asks format port from frame) (link_lies format port from frame is fits)

-- whoever enters a port
stranger_names : (format : Format) (m : Message) → is_stranger format m ≡ true → names_stations format ≡ true
stranger_names format m e =
    by (enters m.frame) (names_stations format) (length m.here.stations == 0) (is_station m.here.port m.here.stations m.link)
    _ e
  where
    by : (enters names none station registered : Bool) → (enters && not (not names || none || station || registered)) ≡ true → names ≡ true
    by enters true none station registered e = refl
    by true false none station registered e = absurd cc
    by false false none station registered e = absurd cc

entering_lies : (format : Format) (device : ℕ) (ports : List ConfiguredPort) (m : Message) → InPorts 1 ports m.here.port → IsBrought m
    → is_stranger format m ≡ true → LiesThere format device ports (enter_ask format m)
entering_lies format device ports m there brought e =
    let port = m.here.port in
    let at = own format port.number port.network (is_manager port) in
    here_lies format device ports port (enter_ask format m) there
    (in_rest (table_shapes format at) (enter_shapes format at ++ (near_shapes at ++ shapes_from format device at)) (enter_ask format m)
    (in_front (enter_shapes format at) (near_shapes at ++ shapes_from format device at) (enter_ask format m)
    (enter_lies format port.number port.network m (stranger_names format m e) refl refl (is_manager port) brought)))

-- ---- of a port's own network

-- a message that names no source is of the link source
own_claim : (m : Message) → IsBrought m → m.npdu.source ≡ None → m.claim ≡ local_source m.here.port.network m.link
own_claim m brought none = brought.claim ∙ ap (claimed_by (local_source m.here.port.network m.link)) none

own_comes : (format : Format) (m : Message) → IsBrought m → m.npdu.source ≡ None → Comes format (own format m.here.port.number m.here.port.network (is_manager m.here.port)) m
own_comes format m brought none =
    let is = own_claim m brought none in
    let net : m.claim.net ≡ m.here.port.network = ap (λ (c : Source). c.net) is in
    record {
      port = (omega arith, omega arith);
      network = (omega (arith, net), omega (arith, net));
      key = subst (λ (c : Source). IsWithin address (key_in format c.mac)) (sym is) (six_octets format m.link brought.link);
      sender = refl;
      manages = refl;
      brought = brought;
    }

own_lies : (w : State) (ports : List ConfiguredPort) (m : Message) → InPorts 1 ports m.here.port → m.npdu.source ≡ None → IsBrought m
    → Reached bounds_known w.relay m → DeviceKnown bounds_known w.device.configured
    → AllByRecursion (LiesThere w.relay.format (device_network w.device) ports) (entry_asks w.rules w.relay m)
    → AllByRecursion (LiesThere w.relay.format (device_network w.device) ports) (asks_for w.rules w.relay w.device (message m))
own_lies w ports m there none brought reached device_known entered =
    let format = w.relay.format in
    let device = device_network w.device in
    let port = m.here.port in
    let at = own format port.number port.network (is_manager port) in
    let comes = own_comes format m brought none in
    let near = near_cases format at m comes in
    let behind : (ask : Ask) → LiesInOne (near_shapes at ++ shapes_from format device at) ask → LiesThere format device ports ask =
    λ ask lies. here_lies format device ports port ask there
    (in_rest (table_shapes format at) (enter_shapes format at ++ (near_shapes at ++ shapes_from format device at)) ask
    (in_rest (enter_shapes format at) (near_shapes at ++ shapes_from format device at) ask lies)) in
    message_lies w.rules w.relay w.device at m (LiesThere format device ports) comes reached device_known
    (λ ask lies. behind ask (in_rest (near_shapes at) (shapes_from format device at) ask lies))
    (record {
      learn = λ is silent network net. behind _ (in_front (near_shapes at) (shapes_from format device at) _ (near.learn is silent network net));
      number = λ is silent. behind _ (in_front (near_shapes at) (shapes_from format device at) _ (near.number is silent));
    }) entered

-- ---- of another network

-- what a message says of a source that it names
record NamesSource (format : Format) (m : Message) : Type 0 where
  net : IsWithin network (Some m.claim.net)
  key : IsWithin (source_in format) (key_in format m.claim.mac)

names_source : (format : Format) (m : Message) → IsBrought m → m.npdu.source ≢ None → NamesSource format m
names_source format m brought named = by m.npdu.source refl
  where
    by : (source : Option Address) → m.npdu.source ≡ source → NamesSource format m
    by None is = absurd (named is)
    by (Some s) is =
        let claim : m.claim ≡ remote_source s = brought.claim ∙ ap (claimed_by (local_source m.here.port.network m.link)) is in
        let station = subst (λ (x : Option Address). IfSome x IsStation) is brought.npdu.source in
        record {
          net = subst (λ (c : Source). IsWithin network (Some c.net)) (sym claim) (station.0, station.1.0);
          key = subst (λ (c : Source). IsWithin (source_in format) (key_in format c.mac)) (sym claim) (source_within format s.mac station.1.1);
        }

-- a message from a network that none of the ports has names its source
not_own : (number : ℕ) (ports : List ConfiguredPort) (port : Port) (n : ℕ) → InPorts number ports port → AllByRecursion (λ p. n ≢ p.network) ports
    → n ≢ port.network
not_own number [] port n there none e = there
not_own number (p ∷ ports) port n (inl is) none e = none.0 (e ∙ ap (λ (q : Port). q.network) is)
not_own number (p ∷ ports) port n (inr later) none e = not_own (number + 1) ports port n later none.1 e

far : (m : Message) (ports : List ConfiguredPort) → IsBrought m → InPorts 1 ports m.here.port → AllByRecursion (λ p. m.claim.net ≢ p.network) ports
    → m.npdu.source ≢ None
far m ports brought there none silent =
    not_own 1 ports m.here.port m.claim.net there none (ap (λ (c : Source). c.net) (own_claim m brought silent))

-- the entrance that a port is one of, whose shapes are among those of all
record Entered (ways : List Entrance) (port : Port) : Type 0 where
  by : Entrance
  within : IsWithin by.port (Some port.number)
  manages : by.manages ≡ is_manager port
  lies : (format : Format) (device : ℕ) (networks : Side) (ask : Ask) → LiesInOne (shapes_by format device networks by) ask
      → LiesInOne (foreign_shapes format device ways networks) ask

later_way : (way : Entrance) (ways : List Entrance) (port : Port) → Entered ways port → Entered (way ∷ ways) port
later_way way ways port entered = record {
  by = entered.by;
  within = entered.within;
  manages = entered.manages;
  lies = λ format device networks ask lies. in_rest (shapes_by format device networks way) (foreign_shapes format device ways networks) ask
      (entered.lies format device networks ask lies);
}

first_way : (way : Entrance) (ways : List Entrance) (port : Port) → IsWithin way.port (Some port.number) → way.manages ≡ is_manager port
    → Entered (way ∷ ways) port
first_way way ways port within manages = record {
  by = way;
  within = within;
  manages = manages;
  lies = λ format device networks ask lies. in_front (shapes_by format device networks way) (foreign_shapes format device ways networks) ask lies;
}

entered_alone : (number : ℕ) (ports : List ConfiguredPort) (port : Port) → InPorts number ports port → Entered (entrances_from number ports) port
entered_alone number [] port there = absurd there
entered_alone number (p ∷ ports) port (inl is) =
    let at : port.number ≡ number = ap (λ (q : Port). q.number) is in
    first_way (record { port = only number; manages = is_configured_manager p }) (entrances_from (number + 1) ports) port
    (omega (arith, at), omega (arith, at)) (sym (ap is_manager is))
entered_alone number (p ∷ ports) port (inr later) =
    later_way (record { port = only number; manages = is_configured_manager p }) (entrances_from (number + 1) ports) port
    (entered_alone (number + 1) ports port later)

all_manage : (number : ℕ) (ports : List ConfiguredPort) (port : Port) → InPorts number ports port → list_all is_configured_manager ports ≡ true
    → is_manager port ≡ true
all_manage number [] port there all = absurd there
all_manage number (p ∷ ports) port (inl is) all =
    ap is_manager is ∙ (and_parts (is_configured_manager p) (list_all is_configured_manager ports) all).0
all_manage number (p ∷ ports) port (inr later) all =
    all_manage (number + 1) ports port later (and_parts (is_configured_manager p) (list_all is_configured_manager ports) all).1

entered_by : (ports : List ConfiguredPort) (port : Port) → InPorts 1 ports port → Entered (entrances ports) port
entered_by ports port there = by (list_all is_configured_manager ports) refl
  where
    by : (b : Bool) → list_all is_configured_manager ports ≡ b
        → Entered (if b then any_entrance ports ∷ [] else entrances_from 1 ports) port
    by true all =
        let bounds = port_bounds 1 ports port there in
        let low = bounds.0 in
        let high = bounds.1 in
        first_way (any_entrance ports) [] port (low, omega (arith, high)) (sym (all_manage 1 ports port there all))
    by false all = entered_alone 1 ports port there

comes_foreign : (format : Format) (way : Entrance) (m : Message) (side : Side) → IsWithin way.port (Some m.here.port.number)
    → way.manages ≡ is_manager m.here.port → IsBrought m → NamesSource format m → IsWithin side (Some m.claim.net)
    → Comes format (foreign format way side) m
comes_foreign format way m side port manages brought named within =
    record { port = port; network = within; key = named.key; sender = refl; manages = manages; brought = brought }

foreign_lies : (w : State) (ports : List ConfiguredPort) (m : Message) → InPorts 1 ports m.here.port → IsBrought m
    → m.claim.net ≢ device_network w.device → AllByRecursion (λ p. m.claim.net ≢ p.network) ports
    → Reached bounds_known w.relay m → DeviceKnown bounds_known w.device.configured
    → AllByRecursion (LiesThere w.relay.format (device_network w.device) ports) (entry_asks w.rules w.relay m)
    → AllByRecursion (LiesThere w.relay.format (device_network w.device) ports) (asks_for w.rules w.relay w.device (message m))
foreign_lies w ports m there brought other none reached device_known entered =
    let format = w.relay.format in
    let device = device_network w.device in
    let silent = far m ports brought there none in
    let named = names_source format m brought silent in
    let gap = gap_of (foreign_shapes format device (entrances ports)) (gaps device ports) m.claim.net (in_gap device ports m.claim.net named.net other none) in
    let way = entered_by ports m.here.port there in
    let at = foreign format way.by gap.side in
    message_lies w.rules w.relay w.device at m (LiesThere format device ports)
    (comes_foreign format way.by m gap.side way.within way.manages brought named gap.within) reached device_known
    (λ ask lies. in_rest (own_shapes format device 1 ports) (others format device ports) ask
    (gap.lies ask (way.lies format device gap.side ask (in_rest (claim_shapes format at) (shapes_from format device at) ask lies))))
    (record { learn = λ is none network net. absurd (silent none); number = λ is none. absurd (silent none) }) entered

claiming_lies : (format : Format) (device : ℕ) (ports : List ConfiguredPort) (m : Message) → InPorts 1 ports m.here.port → IsBrought m
    → names_stations format ≡ true → m.claim.net ≢ device → AllByRecursion (λ p. m.claim.net ≢ p.network) ports
    → LiesThere format device ports (claim_ask format m)
claiming_lies format device ports m there brought names other none =
    let named = names_source format m brought (far m ports brought there none) in
    let gap = gap_of (foreign_shapes format device (entrances ports)) (gaps device ports) m.claim.net (in_gap device ports m.claim.net named.net other none) in
    let way = entered_by ports m.here.port there in
    let at = foreign format way.by gap.side in
    in_rest (own_shapes format device 1 ports) (others format device ports) (claim_ask format m)
    (gap.lies (claim_ask format m) (way.lies format device gap.side (claim_ask format m)
    (in_front (claim_shapes format at) (shapes_from format device at) (claim_ask format m)
    (claim_lies format at m names (comes_foreign format way.by m gap.side way.within way.manages brought named gap.within)))))

-- no port is of a network now, so none is
abbrev Apart : State → List ConfiguredPort → Type 0
Apart w ports = (n : ℕ) → list_any (λ state. state.port.network == n) w.relay.ports ≡ false → AllByRecursion (λ p. n ≢ p.network) ports

-- a message that names no source speaks for nobody else
silent_claim : (relay : Relay) (m : Message) → m.npdu.source ≡ None → speaks_for_others relay m ≡ true → ⊥
silent_claim relay m is e = by (names_stations relay.format) m.npdu.source is e
  where
    by : (names : Bool) (source : Option Address) → source ≡ None
        → (names && option_map_or (λ s. not (comes_by_route relay m s)) source false) ≡ true → ⊥
    by true None is e = absurd cc
    by false None is e = absurd cc
    by names (Some s) is e = absurd cc

speaker_names : (relay : Relay) (m : Message) → speaks_for_others relay m ≡ true → names_stations relay.format ≡ true
speaker_names relay m e = by (names_stations relay.format) _ e
  where
    by : (names rest : Bool) → (names && rest) ≡ true → names ≡ true
    by true rest e = refl
    by false rest e = absurd cc

entry_lies : (w : State) (ports : List ConfiguredPort) (m : Message)
    → IsHeard w.relay.ports (device_network w.device) (λ state. InPorts 1 ports state.port) m → IsBrought m → Apart w ports
    → AllByRecursion (LiesThere w.relay.format (device_network w.device) ports) (entry_asks w.rules w.relay m)
entry_lies w ports m heard brought apart =
    let format = w.relay.format in
    let device = device_network w.device in
    each_entry (LiesThere format device ports) w.rules w.relay m (λ e. entering_lies format device ports m heard.port brought e)
    (λ e. elim heard.claim [
      | inl none ↦ absurd (silent_claim w.relay m none.0 e)
      | inr other ↦
          let parts = or_parts (m.claim.net == device) (list_any (λ state. state.port.network == m.claim.net) w.relay.ports) other in
          claiming_lies format device ports m heard.port brought (speaker_names w.relay m e) (eqb-false m.claim.net device parts.0)
          (apart m.claim.net parts.1)
    ])

-- the networks that a message can go to
reached_by : (w : State) (m : Message) → IsBrought m → AllByRecursion (λ state. bounds_known.IsNet state.port.network) w.relay.ports
    → Reached bounds_known w.relay m
reached_by w m brought nets = record {
  ports = nets;
  bound = λ d is other home. below d (subst (λ (x : Option Destination). IfSome x (λ d. IsPlace d.address)) is brought.npdu.destination)
      (λ e. other (everywhere w.relay.routes d.address.network e));
  text = brought.npdu.octets;
}
  where
    below : (d : Destination) → IsPlace d.address → d.address.network ≢ EVERYWHERE → (1 ≤ d.address.network) × (d.address.network ≤ 65534)
    below d place other =
        let most = place.1.0 in
        (place.0, omega (arith, most, other))

received_lies : (w : State) (ports : List ConfiguredPort) (received : Received)
    → Heard w.relay.ports (device_network w.device) (λ state. InPorts 1 ports state.port) received → Brought received → Apart w ports
    → AllByRecursion (λ state. bounds_known.IsNet state.port.network) w.relay.ports → DeviceKnown bounds_known w.device.configured
    → AllByRecursion (LiesThere w.relay.format (device_network w.device) ports) (asks_for w.rules w.relay w.device received)
received_lies w ports dropped heard brought apart nets known = tt
received_lies w ports (unregistered m) heard brought apart nets known = tt
received_lies w ports (managed on sender frame) heard brought apart nets known =
    let format = w.relay.format in
    let P = LiesThere format (device_network w.device) ports in
    let raised = table.link_asks format on.port sender frame in
    subst (AllByRecursion P) (sym (four_none raised))
    (managed_lies format (device_network w.device) ports on.port sender frame heard brought.0 brought.1)
received_lies w ports (barred m) heard brought apart nets known =
    let P = LiesThere w.relay.format (device_network w.device) ports in
    subst (AllByRecursion P) (sym (four_none (entry_asks w.rules w.relay m))) (entry_lies w ports m heard brought apart)
received_lies w ports (message m) heard brought apart nets known =
    let reached = reached_by w m brought nets in
    let entered = entry_lies w ports m heard brought apart in
    elim heard.claim [
      | inl is ↦ own_lies w ports m heard.port is.0 brought reached known entered
      | inr other ↦
          let parts = or_parts (m.claim.net == device_network w.device) (list_any (λ state. state.port.network == m.claim.net) w.relay.ports) other in
          foreign_lies w ports m heard.port brought (eqb-false m.claim.net (device_network w.device) parts.0) (apart m.claim.net parts.1)
          reached known entered
    ]

-- ---- what is known of the configuration

-- the networks of the ports
port_net : (number : ℕ) (ports : List ConfiguredPort) (port : Port) → AllByRecursion IsOnNetwork ports
    → InPorts number ports port → bounds_known.IsNet port.network
port_net number [] port each there = absurd there
port_net number (p ∷ ports) port each (inl is) = subst (λ (q : Port). bounds_known.IsNet q.network) (sym is) each.0
port_net number (p ∷ ports) port each (inr later) = port_net (number + 1) ports port each.1 later

type_below : (kind : ObjectType) → type_number kind < 2 ^ 10
type_below kind = elim kind as (λ k. type_number k < 2 ^ 10) [ BinaryValue ↦ omega arith | CharacterStringValue ↦ omega arith | Device ↦ omega arith | IntegerValue ↦ omega arith | MultiStateValue ↦ omega arith | PositiveIntegerValue ↦ omega arith ]

an_id : (kind : ObjectType) (instance : ℕ) → instance ≤ 4194302 → IsObject (id kind instance)
an_id kind instance small = record { kind = type_below kind; instance = omega (arith, small) }

their_ids : (objects : List ConfiguredObject) → AllByRecursion (λ o. o.instance ≤ 4194302) objects
    → AllByRecursion (λ o. IsObject (object_id_of o)) objects
their_ids [] each = tt
their_ids (o ∷ os) each = (an_id (type_of o.details) o.instance each.0, their_ids os each.1)

own_object : (c : Configured) (object : Object) → IsObject (device_id c.device) → IsObject object → IsObject (named_object c object)
own_object c object own is = by _
  where
    by : (b : Bool) → IsObject (if b then device_id c.device else object)
    by true = own
    by false = is

-- the properties that the device has are properties
small : Property → Bool
small q = nat_le (property_number q) last_property

all_small : (kind : ObjectType) (set : PropertySet) → list_all small (properties kind set) ≡ true
unfolding small
all_small BinaryValue All = refl
all_small BinaryValue Required = refl
all_small BinaryValue Optional = refl
all_small CharacterStringValue All = refl
all_small CharacterStringValue Required = refl
all_small CharacterStringValue Optional = refl
all_small Device All = refl
all_small Device Required = refl
all_small Device Optional = refl
all_small IntegerValue All = refl
all_small IntegerValue Required = refl
all_small IntegerValue Optional = refl
all_small MultiStateValue All = refl
all_small MultiStateValue Required = refl
all_small MultiStateValue Optional = refl
all_small PositiveIntegerValue All = refl
all_small PositiveIntegerValue Required = refl
all_small PositiveIntegerValue Optional = refl

each_small : (object : Object) (ps : List Property) → IsObject object → list_all small ps ≡ true → AllByRecursion (λ q. AreNamed object (property_number q)) ps
unfolding small
each_small object [] is e = tt
each_small object (p ∷ ps) is e =
    let both = and_parts (small p) (list_all small ps) e in
    ((is, leb-true (property_number p) last_property both.0), each_small object ps is both.1)

device_known : (c : Configured) → c.device.instance ≤ 4194302 → AllByRecursion (λ o. o.instance ≤ 4194302) c.objects → DeviceKnown bounds_known c
device_known c small each =
    let own = an_id types.Device c.device.instance small in record {
      device = own;
      objects = their_ids c.objects each;
      named = λ object p known. (own_object c object own known.0, known.1);
      listed = λ object p kind set known. each_small object (properties kind set) known.0 (all_small kind set);
    }

configured_small : (objects : List ConfigurationObject) → AllByRecursion IsInstance objects
    → AllByRecursion (λ o. o.instance ≤ 4194302) (map configured_of objects)
configured_small [] each = tt
configured_small (o ∷ os) each = (each.0, configured_small os each.1)

-- ---- the laws

-- each port of a state is one of the configured ones
each_there : (number : ℕ) (ports : List ConfiguredPort) (states : List PortState) → ArePortsOf number ports states
    → AllByRecursion (λ state. InPorts number ports state.port) states
each_there number [] [] are = tt
each_there number [] (state ∷ states) are = absurd are
each_there number (p ∷ ports) [] are = absurd are
each_there number (p ∷ ports) (state ∷ states) are = (
  inl are.0,
  each_weaker (λ (other : PortState). InPorts (number + 1) ports other.port) (λ (other : PortState). InPorts number (p ∷ ports) other.port)
      (λ other there. inr there) states (each_there (number + 1) ports states are.2),
)

-- a network that no port of a state has is none of the configured ports'
none_there : (number : ℕ) (ports : List ConfiguredPort) (states : List PortState) (n : ℕ) → ArePortsOf number ports states
    → list_any (λ state. state.port.network == n) states ≡ false → AllByRecursion (λ p. n ≢ p.network) ports
none_there number [] states n are none = tt
none_there number (p ∷ ports) [] n are none = absurd are
none_there number (p ∷ ports) (state ∷ states) n are none =
    let parts = or_parts (state.port.network == n) (list_any (λ (other : PortState). other.port.network == n) states) none in (
      λ same. eqb-false state.port.network n parts.0 (ap (λ (port : Port). port.network) are.0 ∙ sym same),
      none_there (number + 1) ports states n are.2 parts.1,
    )

there_at : (c : Configuration) (w : State) (e : Event) → IsStateUnder c w → IsNumbered c → IsCarried e
    → AllByRecursion (LiesThere w.relay.format (device_network w.device) c.ports) (asks w e)
unfolding asks
there_at c w e is numbered carried =
    let each = each_there 1 c.ports w.relay.ports is.ports in
    let nets = each_weaker (λ state. InPorts 1 c.ports state.port) (λ state. bounds_known.IsNet state.port.network)
    (λ state there. port_net 1 c.ports state.port numbered.networks there) w.relay.ports each in
    let known = subst (λ (x : Configured). DeviceKnown bounds_known x) (sym is.device)
    (device_known (database_of c).configured numbered.device (configured_small c.objects numbered.objects)) in
    received_lies w c.ports (receive w e) (heard_at w (λ state. InPorts 1 c.ports state.port) e each) (brought_at w e carried)
    (λ n none. none_there 1 c.ports w.relay.ports n is.ports none) nets known

pub asks_lie_in_shapes : AsksLieInShapes
asks_lie_in_shapes c numbered w is e carried =
    let device : device_network w.device ≡ c.device.network = ap (λ (x : Configured). x.device.network) is.device in
    each_weaker (LiesThere w.relay.format (device_network w.device) c.ports) (LiesThere c.format c.device.network c.ports)
    (λ ask lies. subst (λ (format : Format). LiesInOne (shapes_of format c.device.network c.ports) ask) is.format
    (subst (λ (n : ℕ). LiesInOne (shapes_of w.relay.format n c.ports) ask) device lies)) (asks w e) (there_at c w e is numbered carried)

pub never_first_never_decides : NeverFirstNeverDecides
never_first_never_decides c number never numbered w is e carried =
    each_weaker (LiesInOne (shapes c)) (λ ask. first c.rules ask ≡ Some number → ⊥)
    (λ ask lies. never ask lies) (asks w e) (asks_lie_in_shapes c numbered w is e carried)

-- ---- after a history

pub fresh_asks_lie_in_shapes : FreshAsksLieInShapes
fresh_asks_lie_in_shapes c numbered k h = asks_lie_in_shapes c numbered (state_after c k h) (histories_are_under c k h)
