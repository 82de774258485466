-- What a wire over memory reports: the calls that it has kept.
use Rattle.std.specs.Prelude.{List, Option, Some, None, map}
use Rattle.std.specs.Global.{Vec}
use Rattle.gw_script.specs.Event.{Datagram, Tick}
use Rattle.gw_wire.specs.Wire.{Call, empty_receive, failed_receive, arrival, departure, failed_send}
use Rattle.gw_gateway_vectors.specs.declared.wire.WireCall.{WireCall as Kept}
use Rattle.gw_gateway_vectors.specs.declared.wire.WireCall.TheVariants as kept

-- a call, without where its octets lie in memory
abbrev pub call_of : Kept → Call
call_of kept.EmptyReceive = empty_receive
call_of kept.FailedReceive = failed_receive
call_of kept.Tick = arrival Tick
call_of (kept.Arrival port from octets) = arrival (Datagram port from octets.items)
call_of (kept.Departure port to octets) = departure (record { port = port; to = to; octets = octets.items })
call_of (kept.FailedSend port to octets) = failed_send (record { port = port; to = to; octets = octets.items })

-- the calls, until memory ended
abbrev pub calls_of : Option (Vec Kept) → Option (List Call)
calls_of None = None
calls_of (Some calls) = Some (map call_of calls.items)
