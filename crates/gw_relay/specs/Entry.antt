-- What is asked before a message is taken, where the format names stations (ours): whether a station may enter that
-- doesn't belong to the port, and whether a station may speak for a network that doesn't lie behind it.
use Rattle.std.specs.Prelude.{ℕ, Bool, true, false, not, ◌&&◌, ◌==◌, List, [], ◌∷◌, ◌++◌, map, Some, None, if◌then◌else◌}
use Rattle.std.specs.List.{list_all}
use Rattle.std.specs.Option.{option_map_or}
use Rattle.gw_addr.specs.declared.bip.BipAddr.{BipAddr}
use Rattle.gw_addr.specs.Address.{octets_of}
use Rattle.gw_tables.specs.bdt_fdt.Registrations.{same}
use Rattle.gw_frames.specs.bvll.Bvll.{forwarded, original_broadcast, original_unicast}
use Rattle.gw_frames.specs.bvll.Bvll.{Message as Frame}
use Rattle.gw_frames.specs.npdu.Npdu.{Address}
use Rattle.gw_tables.specs.routes.Table.{way}
use Rattle.gw_tables.specs.declared.routes.route.Way.{Way}
use Rattle.gw_tables.specs.declared.routes.route.Way.TheVariants.{Router}
use Rattle.gw_rules.specs.Ask.{Ask, ask_of}
use Rattle.gw_rules.specs.Format.{key_in, names_stations}
use Rattle.gw_rules.specs.RuleList.{allows}
use Rattle.gw_rules.specs.declared.format.Format.{Format}
use Rattle.gw_rules.specs.declared.operation.Operation.TheVariants.{Enter, Claim}
use Rattle.gw_rules.specs.declared.rule.Rule.{Rule}
use Rattle.gw_relay.specs.Asks.{sender_of}
use Rattle.gw_relay.specs.Link.{answer_to, refused}
use Rattle.gw_relay.specs.Message.{Message}
use Rattle.gw_relay.specs.Response.{Response}
use Rattle.gw_relay.specs.Sends.{Sending}
use Rattle.gw_relay.specs.State.{Relay}
use Rattle.gw_relay.specs.Stations.{belongs}

-- ---- who enters

-- The frames by which a station reaches the network of a port: Original-Unicast-NPDU and Original-Broadcast-NPDU, and
-- Forwarded-NPDU, where the station is the originator that the peer names.
abbrev pub enters : Frame → Bool
enters (forwarded originator npdu) = true
enters (original_unicast npdu) = true
enters (original_broadcast npdu) = true
enters other = false

-- the ask of the link source, as a node of the port's network
abbrev pub enter_ask : Format → Message → Ask
enter_ask format m = record (ask_of Enter) {
  port = Some m.here.port.number;
  source_network = Some m.here.port.network;
  source_key = key_in format (octets_of m.link);
  sender = sender_of format m.from;
}

-- the link source enters the network of a port to which it doesn't belong
abbrev pub is_stranger : Format → Message → Bool
is_stranger format m = enters m.frame && not (belongs format m.here m.link)

-- then it is asked for
abbrev pub enter_asks : Format → Message → List Ask
enter_asks format m = if is_stranger format m then enter_ask format m ∷ [] else []

-- ---- who speaks for a network

-- a way leads by this port to this router
abbrev pub leads_by : ℕ → BipAddr → Way → Bool
leads_by number router (Router route) = route.port == number && same route.next router
leads_by number router other = false

-- a source lies behind the link source: the way of its network leads by the port to that router
abbrev pub comes_by_route : Relay → Message → Address → Bool
comes_by_route relay m source = leads_by m.here.port.number m.link (way relay.routes source.network)

-- the ask of the source that the message claims
abbrev pub claim_ask : Format → Message → Ask
claim_ask format m = record (ask_of Claim) {
  port = Some m.here.port.number;
  source_network = Some m.claim.net;
  source_key = key_in format m.claim.mac;
  sender = sender_of format m.from;
}

-- the NPDU names a source that doesn't come by its route
abbrev pub speaks_for_others : Relay → Message → Bool
speaks_for_others relay m =
    names_stations relay.format
    && option_map_or (λ source. not (comes_by_route relay m source)) m.npdu.source false

-- then it is asked for
abbrev pub claim_asks : Relay → Message → List Ask
claim_asks relay m = if speaks_for_others relay m then claim_ask relay.format m ∷ [] else []

-- ---- both

-- what is asked: for a network only once the station may enter
abbrev pub entry_asks : List Rule → Relay → Message → List Ask
entry_asks rules relay m =
    enter_asks relay.format m
    ++ (if list_all (allows rules) (enter_asks relay.format m) then claim_asks relay m else [])

-- the message is taken
abbrev pub admits : List Rule → Relay → Message → Bool
admits rules relay m = list_all (allows rules) (entry_asks rules relay m)

-- If it isn't, a Distribute-Broadcast-To-Network is refused by its code.
abbrev pub entry_sends : List Rule → Relay → Message → List Sending
entry_sends rules relay m =
    if admits rules relay m then [] else map (answer_to m.here.port m.from) (refused m.frame)

-- what is answered before it is taken
abbrev pub entry_response : List Rule → Relay → Message → Response
entry_response rules relay m =
    record { asks = entry_asks rules relay m; sends = entry_sends rules relay m; change = None }
