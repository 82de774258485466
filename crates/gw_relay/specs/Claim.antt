-- Who a frame claims to come from (clause 6.2.2, Annex J.2.5).
use Rattle.std.specs.Prelude.{ℕ, Option, Some, None}
use Rattle.gw_addr.specs.declared.bip.BipAddr.{BipAddr}
use Rattle.gw_addr.specs.declared.station.Source.{Source}
use Rattle.gw_addr.specs.Address.{octets_of}
use Rattle.gw_frames.specs.bvll.Bvll.{forwarded}
use Rattle.gw_frames.specs.bvll.Bvll.{Message as Frame}
use Rattle.gw_frames.specs.npdu.Npdu.{Fields, Address}

-- the link source: the originator of a Forwarded-NPDU, else the sender (Annex J.2.5)
abbrev pub link_source : BipAddr → Frame → BipAddr
link_source from (forwarded originator npdu) = originator
link_source from other = from

-- a node of a port's network
abbrev pub local_source : ℕ → BipAddr → Source
local_source network address = record { net = network; mac = octets_of address }

-- a station by the network and the address that a message names
abbrev pub remote_source : Address → Source
remote_source a = record { net = a.network; mac = a.mac }

abbrev pub claimed_by : Source → Option Address → Source
claimed_by link None = link
claimed_by link (Some s) = remote_source s

-- the claim: the source that the NPDU names, and if it names none, the link source on the port's
-- network (clause 6.2.2)
abbrev pub claimed : ℕ → BipAddr → Fields → Source
claimed network link npdu = claimed_by (local_source network link) npdu.source
