-- What is sent and changed once the policy was asked.
use Rattle.std.specs.Prelude.{ℕ, Bool, ◌&&◌, if◌then◌else◌, List, [], map, Option, None, Some}
use Rattle.gw_addr.specs.declared.bip.BipAddr.{BipAddr}
use Rattle.gw_frames.specs.bvll.Bvll.{Message as Frame}
use Rattle.gw_rules.specs.declared.rule.Rule.{Rule}
use Rattle.gw_tables.specs.routes.Table.{new_networks, route_by}
use Rattle.gw_relay.specs.Cast.{passed_on, targets}
use Rattle.gw_relay.specs.Link.{answer_to, change_of, granted, is_granted, refused}
use Rattle.gw_relay.specs.Manage.{announced_but, keep_allowed, learn_ask, named_networks}
use Rattle.gw_relay.specs.Message.{Message}
use Rattle.gw_relay.specs.Response.{Response}
use Rattle.gw_relay.specs.Sends.{Sending, sent}
use Rattle.gw_relay.specs.State.{Relay}
use Rattle.gw_relay.specs.declared.change.Change.{Change}
use Rattle.gw_relay.specs.declared.change.Change.TheVariants.{Learnings}
use Rattle.gw_relay.specs.declared.port.PortState.{PortState}

-- the answer to a frame that manages a table
abbrev pub served : PortState → BipAddr → Frame → Bool → List Sending
served state from frame allowed =
    map (answer_to state.port from)
    (if allowed && is_granted state from frame then granted state frame else refused frame)

-- what it changes
abbrev pub served_change : PortState → BipAddr → Frame → Bool → Option Change
served_change state from frame allowed =
    if allowed && is_granted state from frame then change_of state.port from frame else None

-- the sends of a broadcast
abbrev pub judged : PortState → BipAddr → Frame → Bool → List Sending
judged state from frame allowed =
    if allowed then sent state.port.number (targets state from frame) (passed_on from frame)
    else map (answer_to state.port from) (refused frame)

-- what is announced onward of networks that may be learned
abbrev pub onward_of : Relay → Message → List ℕ → List Sending
onward_of relay m networks =
    if relay.announce
    then announced_but m.here.port.number relay.ports
    (new_networks relay.routes networks (route_by m.here.port.number m.link)) else []

-- what is learned of a router's message
abbrev pub learn_response : List Rule → Relay → Message → Response
learn_response rules relay m = record {
  asks = map (learn_ask relay.format m) (named_networks m);
  sends = onward_of relay m (keep_allowed rules relay.format m (named_networks m));
  change = Some (Learnings m.here.port.number m.link (keep_allowed rules relay.format m (named_networks m)));
}
