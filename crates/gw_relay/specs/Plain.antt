-- What the relay asks and does without the two keys: as it was before a port could have another broadcast manager beside
-- it, and before networks were announced.
use Rattle.std.specs.Prelude.{Bool, true, false, not, ◌&&◌, ◌||◌, if◌then◌else◌, List, [], ◌∷◌, map, None}
use Rattle.std.specs.List.{list_all, list_any}
use Rattle.std.specs.Option.{option_map_or}
use Rattle.gw_addr.specs.declared.bip.BipAddr.{BipAddr}
use Rattle.gw_frames.specs.bvll.Bvll.{distribute, forwarded}
use Rattle.gw_frames.specs.bvll.Bvll.{Message as Frame}
use Rattle.gw_tables.specs.bdt_fdt.Peers.{is_of, peers}
use Rattle.gw_tables.specs.bdt_fdt.Registrations.{contains, same}
use Rattle.gw_rules.specs.Ask.{Ask}
use Rattle.gw_rules.specs.RuleList.{allows}
use Rattle.gw_rules.specs.declared.format.Format.{Format}
use Rattle.gw_rules.specs.declared.rule.Rule.{Rule}
use Rattle.gw_relay.specs.Asks.{link_ask, management_of}
use Rattle.gw_relay.specs.Cast.{carried_asks, cast_ask, is_broadcast, passed_on, targets}
use Rattle.gw_relay.specs.Link.{answer_to, change_of, granted, is_granted, refused}
use Rattle.gw_relay.specs.Manage.{manage_asks, manage_change, manage_steps}
use Rattle.gw_relay.specs.Message.{Message}
use Rattle.gw_relay.specs.Response.{Response}
use Rattle.gw_relay.specs.Sends.{Sending, sent}
use Rattle.gw_relay.specs.State.{Relay, is_manager}
use Rattle.gw_relay.specs.Steps.{sends_of}
use Rattle.gw_relay.specs.declared.port.Port.{Port}
use Rattle.gw_relay.specs.declared.port.PortState.{PortState}

-- each port is the broadcast manager of its subnet
abbrev pub are_managers : List PortState → Bool
are_managers ports = list_all (λ state. is_manager state.port) ports

-- so it is, and nothing is announced
abbrev pub is_plain : Relay → Bool
is_plain relay = not relay.announce && are_managers relay.ports

-- ---- tables of a port

abbrev pub plain_link_asks : Format → Port → BipAddr → Frame → List Ask
plain_link_asks format port from frame =
    option_map_or (λ operation. link_ask format port from frame operation ∷ []) (management_of frame) []

abbrev pub plain_link_grants : List Rule → Format → PortState → BipAddr → Frame → Bool
plain_link_grants rules format state from frame =
    list_all (allows rules) (plain_link_asks format state.port from frame) && is_granted state from frame

abbrev pub plain_link_response : List Rule → Format → PortState → BipAddr → Frame → Response
plain_link_response rules format state from frame = record {
  asks = plain_link_asks format state.port from frame;
  sends = map (answer_to state.port from)
      (if plain_link_grants rules format state from frame then granted state frame else refused frame);
  change = if plain_link_grants rules format state from frame then change_of state.port from frame else None;
}

-- ---- broadcasts

-- a Forwarded-NPDU is heard from a peer alone, and not if the port itself is its originator
abbrev pub plain_accepts : PortState → BipAddr → Frame → Bool
plain_accepts state from (forwarded originator npdu) =
    not (same originator state.port.address) && list_any (is_of from) (peers state.port.address state.bdt)
plain_accepts state from other = true

abbrev pub plain_is_unregistered : PortState → BipAddr → Frame → Bool
plain_is_unregistered state from (distribute npdu) = not (contains state.fdt from)
plain_is_unregistered state from other = false

abbrev pub plain_goes_on : PortState → BipAddr → Frame → Bool
plain_goes_on state from frame = plain_accepts state from frame && not (plain_is_unregistered state from frame)

abbrev pub plain_cast_asks : Format → Message → List Ask
plain_cast_asks format m =
    if plain_goes_on m.here m.from m.frame && is_broadcast m.frame
    then cast_ask format m ∷ carried_asks format m else []

abbrev pub plain_cast_sends : List Rule → Format → Message → List Sending
plain_cast_sends rules format m =
    if not (plain_accepts m.here m.from m.frame) then []
    else if plain_is_unregistered m.here m.from m.frame || not (list_all (allows rules) (plain_cast_asks format m))
    then map (answer_to m.here.port m.from) (refused m.frame)
    else sent m.here.port.number (targets m.here m.from m.frame) (passed_on m.from m.frame)

abbrev pub plain_cast_response : List Rule → Format → Message → Response
plain_cast_response rules format m =
    record { asks = plain_cast_asks format m; sends = plain_cast_sends rules format m; change = None }

-- ---- network layer messages: nothing is announced

abbrev pub plain_manage_response : List Rule → Relay → Message → Response
plain_manage_response rules relay m = record {
  asks = manage_asks relay m;
  sends = sends_of rules (manage_steps relay m);
  change = manage_change rules relay m;
}
