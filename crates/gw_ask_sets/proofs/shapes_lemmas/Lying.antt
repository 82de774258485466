-- Which asks lie in a shape, and in one of several.
use Rattle.std.proofs.Common.{◌⊎◌, inl, inr, ℕ, Bool, true, false, List, [], ◌∷◌, ◌++◌, Some}
use Rattle.gw_rules.specs.Ask.{Ask}
use Rattle.gw_rules.specs.Fields.{value_of}
use Rattle.gw_rules.specs.declared.field.FieldName.TheVariants.{Operation, Port, SourceNetwork, SourceKey, DestinationNetwork, Service, ObjectType, Instance, Property, Priority, Sender, Station}
use Rattle.gw_ask_sets.specs.shapes.Shape.{IsIn, IsOneOf, IsWithin, LiesIn, LiesInOne, Shape}
use Rattle.gw_ask_sets.specs.declared.shapes.side.Side.{Side}

-- a number that a field may be is between the ends of the side's range
pub in_range : (side : Side) (number : ℕ) → IsWithin side (Some number) → IsIn side.range number
in_range side number is = by side.keyed is
  where
    by : (keyed : Bool) → IsOneOf keyed side.range number → IsIn side.range number
    by false is = is
    by true is = is.0

-- an ask lies in a shape by its twelve fields
pub lies_by : (shape : Shape) (ask : Ask)
    → IsWithin shape.operation ask.operation
    → IsWithin shape.port ask.port
    → IsWithin shape.source_network ask.source_network
    → IsWithin shape.source_key ask.source_key
    → IsWithin shape.destination_network ask.destination_network
    → IsWithin shape.service ask.service
    → IsWithin shape.object_type ask.object_type
    → IsWithin shape.instance ask.instance
    → IsWithin shape.property ask.property
    → IsWithin shape.priority ask.priority
    → IsWithin shape.sender ask.sender
    → IsWithin shape.station ask.station
    → LiesIn shape ask
lies_by shape ask a b c d e f g h i j k l field = elim field as (λ field. IsWithin (value_of field shape) (value_of field ask)) [
  | Operation ↦ a
  | Port ↦ b
  | SourceNetwork ↦ c
  | SourceKey ↦ d
  | DestinationNetwork ↦ e
  | Service ↦ f
  | ObjectType ↦ g
  | Instance ↦ h
  | Property ↦ i
  | Priority ↦ j
  | Sender ↦ k
  | Station ↦ l
]

-- ---- in one of several

pub in_front : (xs ys : List Shape) (ask : Ask) → LiesInOne xs ask → LiesInOne (xs ++ ys) ask
in_front [] ys ask lies = absurd lies
in_front (x ∷ xs) ys ask (inl here) = inl here
in_front (x ∷ xs) ys ask (inr later) = inr (in_front xs ys ask later)

pub in_rest : (xs ys : List Shape) (ask : Ask) → LiesInOne ys ask → LiesInOne (xs ++ ys) ask
in_rest [] ys ask lies = lies
in_rest (x ∷ xs) ys ask lies = inr (in_rest xs ys ask lies)

pub in_either : (xs ys : List Shape) (ask : Ask) → LiesInOne (xs ++ ys) ask → LiesInOne xs ask ⊎ LiesInOne ys ask
in_either [] ys ask lies = inr lies
in_either (x ∷ xs) ys ask (inl here) = inl (inl here)
in_either (x ∷ xs) ys ask (inr later) = elim (in_either xs ys ask later) [
  | inl front ↦ inl (inr front)
  | inr rest ↦ inr rest
]
