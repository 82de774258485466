-- A message of the network layer that came on a port, and whom it comes from.
use Rattle.gw_addr.specs.declared.bip.BipAddr.{BipAddr}
use Rattle.gw_addr.specs.declared.station.Source.{Source}
use Rattle.gw_frames.specs.bvll.Bvll.{view as frame_view}
use Rattle.gw_frames.specs.bvll.Bvll.{Message as Frame}
use Rattle.gw_frames.specs.npdu.Npdu.{Fields}
use Rattle.gw_frames.specs.npdu.Npdu.{view as npdu_view}
use Rattle.gw_relay.specs.Claim.{claimed, link_source}
use Rattle.gw_relay.specs.declared.message.Message.{Message as LentMessage}
use Rattle.gw_relay.specs.declared.port.PortState.{PortState}

-- The port that it came on with its tables, its sender and frame, the link source, the claim, and the
-- NPDU.
pub record Message : Type 0 where
  pub here : PortState
  pub from : BipAddr
  pub frame : Frame
  pub link : BipAddr
  pub claim : Source
  pub npdu : Fields

-- the message that a frame brings on a port
abbrev pub message_of : PortState → BipAddr → Frame → Fields → Message
message_of here from frame npdu = record {
  here = here;
  from = from;
  frame = frame;
  link = link_source from frame;
  claim = claimed here.port.network (link_source from frame) npdu;
  npdu = npdu;
}

-- a message of the code, without where its octets lie in memory
abbrev pub message_view : LentMessage → Message
message_view m = message_of m.here.now m.from (frame_view m.frame.now) (npdu_view m.npdu.now)
