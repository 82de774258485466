-- What a router changes of a message before it sends it on (clauses 6.2.2 and 6.5.4).
use Rattle.std.specs.Prelude.{◌-◌, Bool, Some, None, unwrap_or, if◌then◌else◌}
use Rattle.std.specs.Option.{option_map}
use Rattle.gw_frames.specs.declared.npdu.onward.Onward.{Onward as LentOnward}
use Rattle.gw_frames.specs.npdu.Npdu.{Address, Destination, Fields, address_view}

-- How a message goes on: whether it keeps its destination, and the address that it names if it
-- names no source.
pub record Onward : Type 0 where
  pub keeps_destination : Bool
  pub source : Address

abbrev pub onward_view : LentOnward → Onward
onward_view o = record { keeps_destination = o.keeps_destination; source = address_view o.source }

-- a destination with one hop less; a count of 0 stays 0
abbrev pub one_hop_less : Destination → Destination
one_hop_less d = record d { hops = d.hops - 1 }

-- the fields for the next hop
abbrev pub onward : Onward → Fields → Fields
onward o f = record f {
  destination = if o.keeps_destination then option_map one_hop_less f.destination else None;
  source = Some (unwrap_or f.source o.source);
}
