-- The frames that read or change a table of their port, and the answer to each (Annex J.2.1 to
-- J.2.9, J.4, J.5).
use Rattle.std.specs.Prelude.{Bool, true, not, ◌&&◌, ◌||◌, if◌then◌else◌, List, [], ◌∷◌, map, is_some, Option, Some, None}
use Rattle.std.specs.List.{list_all}
use Rattle.std.specs.Option.{option_map_or}
use Rattle.gw_addr.specs.declared.bip.BipAddr.{BipAddr}
use Rattle.gw_tables.specs.bdt_fdt.Peers.{are_too_many, has_twice}
use Rattle.gw_tables.specs.bdt_fdt.Registrations.{contains, has_room, shown}
use Rattle.gw_frames.specs.bvll.Bvll.{encoding, function_of, refusal, success}
use Rattle.gw_frames.specs.bvll.Bvll.{write_bdt, read_bdt, read_bdt_ack, register, read_fdt, read_fdt_ack, delete, result_code}
use Rattle.gw_frames.specs.bvll.Bvll.{Message as Frame}
use Rattle.gw_rules.specs.RuleList.{allows}
use Rattle.gw_rules.specs.declared.format.Format.{Format}
use Rattle.gw_rules.specs.declared.rule.Rule.{Rule}
use Rattle.gw_relay.specs.Asks.{link_asks, management_of}
use Rattle.gw_relay.specs.Response.{Response}
use Rattle.gw_relay.specs.Sends.{Sending, sending}
use Rattle.gw_relay.specs.State.{is_manager}
use Rattle.gw_relay.specs.declared.change.Change.{Change}
use Rattle.gw_relay.specs.declared.change.Change.TheVariants.{Entries, Registration, Deletion}
use Rattle.gw_relay.specs.declared.port.PortState.{PortState}
use Rattle.gw_relay.specs.declared.port.Port.{Port}

-- what a frame asks for can be had: a table of at most 64 entries with no address twice, room for a
-- registration, a registration to delete
abbrev pub is_granted : PortState → BipAddr → Frame → Bool
is_granted state from (write_bdt entries) = not (are_too_many entries || has_twice entries)
is_granted state from (register time_to_live) = has_room state.fdt from
is_granted state from (delete address) = contains state.fdt address
is_granted state from other = true

-- the answer if it is had: the table that is read, in its order, or success
abbrev pub granted : PortState → Frame → List Frame
granted state (write_bdt entries) = result_code success ∷ []
granted state read_bdt = read_bdt_ack state.bdt ∷ []
granted state (register time_to_live) = result_code success ∷ []
granted state read_fdt = read_fdt_ack (map shown state.fdt.rows) ∷ []
granted state (delete address) = result_code success ∷ []
granted state other = []

-- the answer if it isn't: the negative code of the function (Annex J.2.1), if it has one
abbrev pub refused : Frame → List Frame
refused frame = option_map_or (λ code. result_code code ∷ []) (refusal (function_of frame)) []

-- what changes if it is had
abbrev pub change_of : Port → BipAddr → Frame → Option Change
change_of port from (write_bdt entries) = Some (Entries port.number entries)
change_of port from (register time_to_live) = Some (Registration port.number from time_to_live)
change_of port from (delete address) = Some (Deletion port.number address)
change_of port from other = None

-- a frame is for a table, and comes on a port that has none: another broadcast manager is beside it (ours)
abbrev pub is_misplaced : Port → Frame → Bool
is_misplaced port frame = is_some (management_of frame) && not (is_manager port)

-- it is had if the port has the table, the policy allows it and it can be had
abbrev pub link_grants : List Rule → Format → PortState → BipAddr → Frame → Bool
link_grants rules format state from frame =
    not (is_misplaced state.port frame)
    && (list_all (allows rules) (link_asks format state.port from frame) && is_granted state from frame)

-- an answer, which goes to the sender
abbrev pub answer_to : Port → BipAddr → Frame → Sending
answer_to port from answer = sending port.number (encoding answer) from

-- the answer to a frame that reads or changes a table
unfoldable pub link_answer : List Rule → Format → PortState → BipAddr → Frame → List Sending
link_answer rules format state from frame =
    map (answer_to state.port from)
    (if link_grants rules format state from frame then granted state frame else refused frame)

-- what it changes
unfoldable pub link_change : List Rule → Format → PortState → BipAddr → Frame → Option Change
link_change rules format state from frame =
    if link_grants rules format state from frame then change_of state.port from frame else None

-- what is answered to it
abbrev pub link_response : List Rule → Format → PortState → BipAddr → Frame → Response
link_response rules format state from frame = record {
  asks = link_asks format state.port from frame;
  sends = link_answer rules format state from frame;
  change = link_change rules format state from frame;
}
