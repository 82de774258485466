-- The event that a datagram is where it came.
use Rattle.gw_core.specs.declared.receive.Arrival.{Arrival}
use Rattle.gw_script.specs.Event.{Event, Datagram}

abbrev pub event_of : Arrival → Event
event_of a = Datagram a.port a.from a.octets.now
