-- What the code's values mean, without where they lie in memory.
use Rattle.std.specs.Prelude.{not, if◌then◌else◌, Option, Some, None}
use Rattle.std.specs.Option.{option_map_or}
use Rattle.gw_frames.specs.bvll.Bvll.{view as frame_view}
use Rattle.gw_relay.specs.Cast.{accepts, is_unregistered}
use Rattle.gw_relay.specs.Claim.{local_source}
use Rattle.gw_relay.specs.Message.{Message, message_view}
use Rattle.gw_core.specs.declared.denial.Origin.{Origin as CodeOrigin}
use Rattle.gw_core.specs.declared.receive.Received.{Received as LentReceived}
use Rattle.gw_core.specs.declared.receive.Received.TheVariants as lent
use Rattle.gw_core.specs.Drops.{unheard_drop}
use Rattle.gw_core.specs.declared.drops.DropReason.{DropReason}
use Rattle.gw_core.specs.Receive.{Origin, Received, admit, message_origin, node_origin, dropped, managed}
use Rattle.gw_core.specs.Receive.{message, unregistered}
use Rattle.gw_core.specs.State.{State}

-- A message is judged once it is passed on: it may be unheard, or an unregistered sender's.
abbrev pub judged : Message → Received
judged m =
    if not (accepts m.here m.from m.frame) then dropped
    else if is_unregistered m.here m.from m.frame then unregistered m else message m

abbrev pub received_view : LentReceived → Received
received_view (lent.Dropped why) = dropped
received_view (lent.Managed m) = managed m.here.now m.from (frame_view m.frame.now)
received_view (lent.Message m) = judged (message_view m)

-- why it is dropped, if it is
abbrev pub drop_view : LentReceived → Option DropReason
drop_view (lent.Dropped why) = Some why
drop_view (lent.Managed m) = None
drop_view (lent.Message m) = unheard_drop m.here.now m.from (frame_view m.frame.now)

-- what it is received as once the policy is asked who may enter
abbrev pub admitted_view : State → LentReceived → Received
admitted_view w received = admit w.rules w.relay (received_view received)

-- whom the code takes a datagram to come from, unjudged
abbrev pub origin_of : LentReceived → Option Origin
origin_of (lent.Dropped why) = None
origin_of (lent.Managed m) = Some (node_origin m.here.now m.from)
origin_of (lent.Message m) = Some (message_origin (message_view m))

abbrev pub origin_view : CodeOrigin → Origin
origin_view o =
    let link = local_source o.here.now.port.network o.link in
    record {
      port = o.here.now.port.number;
      source = option_map_or (λ m. (message_view m.now).claim) o.message link;
      link = link;
    }
