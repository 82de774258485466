-- The regions of shapes.
use Rattle.std.specs.Prelude.{◌≡◌, true, if◌then◌else◌, [], ◌∷◌}
use Rattle.gw_ask_sets.specs.regions.Ranges.{shared}
use Rattle.gw_ask_sets.specs.regions.Regions.{Region, lies}
use Rattle.gw_ask_sets.specs.declared.regions.values.Values.{Values}
use Rattle.gw_rules.specs.Ask.{Ask}
use Rattle.gw_ask_sets.specs.shapes.Meeting.{has_number}
use Rattle.gw_ask_sets.specs.shapes.Shape.{LiesIn, Shape, key_ranges}
use Rattle.gw_ask_sets.specs.declared.shapes.side.Side.{Side}

-- the values of a side: one range, or none if the side has no number; where keys alone count, those of the range
abbrev pub values_of : Side → Values
values_of side = record {
  absent = side.absent;
  ranges =
      if side.keyed then shared key_ranges (side.range ∷ [])
      else if has_number side then side.range ∷ []
      else [];
}

-- and so for each field of a shape
abbrev pub region_of : Shape → Region
region_of shape = record {
  operation = values_of shape.operation;
  port = values_of shape.port;
  source_network = values_of shape.source_network;
  source_key = values_of shape.source_key;
  destination_network = values_of shape.destination_network;
  service = values_of shape.service;
  object_type = values_of shape.object_type;
  instance = values_of shape.instance;
  property = values_of shape.property;
  priority = values_of shape.priority;
  sender = values_of shape.sender;
  station = values_of shape.station;
}

-- an ask lies in the region of a shape exactly if it lies in the shape
pub record IsRegionOf (shape : Shape) (region : Region) : Type 0 where
  pub inner : (ask : Ask) → lies region ask ≡ true → LiesIn shape ask
  pub whole : (ask : Ask) → LiesIn shape ask → lies region ask ≡ true
