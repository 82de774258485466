-- One event, as a line writes it and a gateway takes it, without where its octets lie in memory.
use Rattle.std.specs.Prelude.{ℕ, ◌≤◌, List, Option, Some, None, ⊤}
use Rattle.gw_addr.specs.declared.bip.BipAddr.{BipAddr}
use Rattle.gw_script.specs.declared.event.Event.{Event as LentEvent}
use Rattle.gw_script.specs.declared.event.Event.TheVariants as lent

-- a datagram that came on the port of this number, from 1, or one second
pub data Event : Type 0 where
  Datagram : (port : ℕ) (from : BipAddr) (octets : List ℕ) → Event
  Tick : Event

abbrev pub event_view : LentEvent → Event
event_view (lent.Datagram port from octets) = Datagram port from octets.now
event_view lent.Tick = Tick

-- an event that is a tick, or a datagram on one of so many ports
abbrev pub IsOnPort : ℕ → Event → Type 0
IsOnPort count (Datagram port from octets) = (1 ≤ port) × (port ≤ count)
IsOnPort count Tick = ⊤

-- whom a datagram comes from
abbrev pub sender_of : Event → Option BipAddr
sender_of (Datagram port from octets) = Some from
sender_of Tick = None
