-- Broadcasts, and whom they are distributed to (Annex J.4, J.5).
use Rattle.std.specs.Prelude.{ℕ, Bool, true, false, not, ◌&&◌, ◌||◌, if◌then◌else◌, List, [], ◌∷◌, ◌++◌, length, filter}
use Rattle.std.specs.Prelude.{map, nat_eq, nat_le, slice_index, None}
use Rattle.std.specs.Cmp.Lexicographic.{pointwise}
use Rattle.std.specs.Int.{w8, bit_not}
use Rattle.std.specs.Int.RustNames.{bit_or}
use Rattle.std.specs.List.{list_all, list_any}
use Rattle.std.specs.Map.{keys_of}
use Rattle.std.specs.Option.{option_map_or}
use Rattle.gw_addr.specs.declared.bip.BipAddr.{BipAddr}
use Rattle.gw_addr.specs.declared.entry.BdtEntry.{BdtEntry}
use Rattle.gw_tables.specs.bdt_fdt.Peers.{all_ones, is_of, own_mask, peers}
use Rattle.gw_tables.specs.bdt_fdt.Registrations.{contains, same}
use Rattle.gw_frames.specs.bvll.Bvll.{forwarded, distribute, original_broadcast}
use Rattle.gw_frames.specs.bvll.Bvll.{Message as Frame}
use Rattle.gw_frames.specs.npdu.Numbers.{max_len}
use Rattle.gw_rules.specs.Ask.{Ask}
use Rattle.gw_rules.specs.Format.{names_stations}
use Rattle.gw_rules.specs.RuleList.{allows}
use Rattle.gw_rules.specs.declared.format.Format.{Format}
use Rattle.gw_rules.specs.declared.operation.Operation.TheVariants.{Cast}
use Rattle.gw_rules.specs.declared.rule.Rule.{Rule}
use Rattle.gw_relay.specs.Asks.{bound_for, passing_ask}
use Rattle.gw_relay.specs.Link.{answer_to, refused}
use Rattle.gw_relay.specs.Message.{Message}
use Rattle.gw_relay.specs.Named.{named_asks}
use Rattle.gw_relay.specs.Response.{Response}
use Rattle.gw_relay.specs.Sends.{Sending, sent}
use Rattle.gw_relay.specs.State.{is_manager}
use Rattle.gw_relay.specs.declared.port.PortState.{PortState}

-- ---- whom a port's broadcasts go to

-- an octet of an address, with the bits set that the mask leaves zero
abbrev pub directed_octet : BdtEntry → ℕ → ℕ
directed_octet entry place =
    bit_or (slice_index entry.address.ip place) (bit_not w8 (slice_index entry.mask place))

-- Where a broadcast goes for an entry of a table: to its address with every bit set that its mask
-- leaves zero. So all ones reach the broadcast manager itself, and a subnet mask its subnet.
abbrev pub directed : BdtEntry → BipAddr
directed entry = record {
  ip = directed_octet entry 0 ∷ directed_octet entry 1
      ∷ directed_octet entry 2 ∷ directed_octet entry 3 ∷ [];
  udp = entry.address.udp;
}

-- the peers, in the order of the table
abbrev pub managers : PortState → List BipAddr
managers state = map directed (peers state.port.address state.bdt)

-- the registered foreign devices, in their order
abbrev pub devices : PortState → List BipAddr
devices state = keys_of state.fdt.rows

-- the foreign devices but one
abbrev pub devices_but : BipAddr → PortState → List BipAddr
devices_but address state = filter (λ device. not (same address device)) (devices state)

-- The subnet itself, for a broadcast that a peer sent to the port alone. Where the own mask is
-- another than all ones, the peer's directed broadcast has reached the subnet already.
abbrev pub subnet : PortState → List BipAddr
subnet state =
    if pointwise nat_eq (own_mask state.port.address state.bdt) all_ones
    then state.port.broadcast ∷ [] else []

-- ---- a broadcast that is distributed

-- whom it goes to: nobody is left out but the sender of a Distribute-Broadcast-To-Network
abbrev pub targets : PortState → BipAddr → Frame → List BipAddr
targets state from (original_broadcast npdu) = managers state ++ devices state
targets state from (distribute npdu) = state.port.broadcast ∷ managers state ++ devices_but from state
targets state from (forwarded originator npdu) = subnet state ++ devices state
targets state from other = []

-- what it goes on as: a Forwarded-NPDU that names its sender as the originator, or as it came
abbrev pub passed_on : BipAddr → Frame → Frame
passed_on from (original_broadcast npdu) = forwarded from npdu
passed_on from (distribute npdu) = forwarded from npdu
passed_on from other = other

-- ---- whether it is distributed

-- who may forward broadcasts to a port: its peers, or the broadcast manager beside it alone (ours)
abbrev pub is_forwarder : PortState → BipAddr → Bool
is_forwarder state from =
    option_map_or (same from) state.port.bbmd (list_any (is_of from) (peers state.port.address state.bdt))

-- A Forwarded-NPDU is heard from such a one, and not if the port itself is its originator
-- (ours). Any other frame is heard.
abbrev pub accepts : PortState → BipAddr → Frame → Bool
accepts state from (forwarded originator npdu) =
    not (same originator state.port.address) && is_forwarder state from
accepts state from other = true

-- Distribute-Broadcast-To-Network is for registered foreign devices (Annex J.5), and nobody is registered where
-- another broadcast manager is beside the port.
abbrev pub is_unregistered : PortState → BipAddr → Frame → Bool
is_unregistered state from (distribute npdu) = not (is_manager state.port && contains state.fdt from)
is_unregistered state from other = false

-- whether a frame goes on to the network layer
abbrev pub goes_on : PortState → BipAddr → Frame → Bool
goes_on state from frame = accepts state from frame && not (is_unregistered state from frame)

-- the frames that are broadcasts
abbrev pub is_broadcast : Frame → Bool
is_broadcast (forwarded originator npdu) = true
is_broadcast (distribute npdu) = true
is_broadcast (original_broadcast npdu) = true
is_broadcast other = false

-- a broadcast that is to be distributed: by a port that is the broadcast manager of its subnet
abbrev pub is_carried : PortState → Frame → Bool
is_carried state frame = is_manager state.port && is_broadcast frame

-- the ask of a broadcast
abbrev pub cast_ask : Format → Message → Ask
cast_ask format m = passing_ask format Cast m (bound_for m.npdu)

-- What is asked after it, whether or not it is allowed: each property that the request reads or writes, where the
-- format names stations.
abbrev pub carried_asks : Format → Message → List Ask
carried_asks format m =
    if names_stations format then named_asks format (cast_ask format m) m.npdu.payload else []

unfoldable pub cast_asks : Format → Message → List Ask
cast_asks format m =
    if goes_on m.here m.from m.frame && is_carried m.here m.frame
    then cast_ask format m ∷ carried_asks format m else []

-- The sends of a broadcast: one message to all its targets if the policy allows all its asks, and none from a port
-- with another broadcast manager beside it. A Distribute-Broadcast-To-Network of an unregistered sender, or that is
-- denied, is refused by its code.
unfoldable pub cast_sends : List Rule → Format → Message → List Sending
cast_sends rules format m =
    if not (accepts m.here m.from m.frame) then []
    else if is_unregistered m.here m.from m.frame || not (list_all (allows rules) (cast_asks format m))
    then map (answer_to m.here.port m.from) (refused m.frame)
    else if is_manager m.here.port
    then sent m.here.port.number (targets m.here m.from m.frame) (passed_on m.from m.frame)
    else []

-- what distribution answers
abbrev pub cast_response : List Rule → Format → Message → Response
cast_response rules format m =
    record { asks = cast_asks format m; sends = cast_sends rules format m; change = None }

-- ---- a broadcast by the gateway

-- The sends of a broadcast by the gateway on a port: on its subnet, and as a Forwarded-NPDU of its
-- own to all peers and foreign devices. An NPDU of over 1497 octets isn't sent (ours).
unfoldable pub spread : PortState → List ℕ → List Sending
spread state npdu =
    if nat_le (length npdu) max_len
    then sent state.port.number (state.port.broadcast ∷ []) (original_broadcast npdu)
    ++ sent state.port.number (managers state ++ devices state) (forwarded state.port.address npdu)
    else []
