-- Asks of which notes say that they pass, or that none does, and what is found of them.
use Rattle.std.specs.Prelude.{◌≡◌, ℕ, ◌+◌, ◌-◌, Bool, true, false, not, ◌&&◌, ◌||◌, ◌==◌, if◌then◌else◌, List, [], ◌∷◌, Option, None}
use Rattle.std.specs.List.{filter, flat_map}
use Rattle.std.specs.Option.{option_map_or}
use Rattle.gw_configuration.specs.declared.port.Port.{Port}
use Rattle.gw_rules.specs.Operation.{operation_number}
use Rattle.gw_rules.specs.Range.{holds}
use Rattle.gw_rules.specs.RuleList.{first}
use Rattle.gw_rules.specs.declared.format.Format.{Format}
use Rattle.gw_rules.specs.declared.operation.Operation.{Operation}
use Rattle.gw_rules.specs.declared.operation.Operation.TheVariants as operations
use Rattle.gw_rules.specs.declared.rule.Rule.{Rule}
use Rattle.gw_ask_sets.specs.shapes.Meeting.{has_number}
use Rattle.gw_ask_sets.specs.shapes.Pieces.{numbers}
use Rattle.gw_ask_sets.specs.shapes.Shape.{Shape}
use Rattle.gw_ask_sets.specs.shapes.Shapes.{aimed, bound, is_manager, only, own}
use Rattle.gw_ask_sets.specs.declared.shapes.search.Outcome.{Outcome}
use Rattle.gw_ask_sets.specs.declared.shapes.search.Outcome.TheVariants as outcome
use Rattle.gw_ask_sets.specs.declared.shapes.side.Side.{Side}
use Rattle.gw_policy_review.specs.permissions.Passing.{IsPassage}

-- ---- what is found of asks

-- an ask that passes
abbrev pub passes : Outcome → Bool
passes (outcome.Decides ask) = true
passes _ = false

-- the number of the rule by which it does
abbrev pub opener : List Rule → Outcome → Option ℕ
opener rules (outcome.Decides ask) = first rules ask
opener rules _ = None

-- it does by the rule of this number
abbrev pub opens : List Rule → ℕ → Outcome → Bool
opens rules number found = option_map_or (λ by. by == number) (opener rules found) false

-- what is found of each of these shapes, in order; so many steps are left before, and after
abbrev pub ArePassages : List Rule → List Shape → (left rest : ℕ) → List Outcome → Type 0
ArePassages rules [] left rest [] = rest ≡ left
ArePassages rules [] left rest (one ∷ found) = ⊥
ArePassages rules (shape ∷ shapes) left rest [] = ⊥
ArePassages rules (shape ∷ shapes) left rest (one ∷ found) =
    (between : ℕ) × IsPassage (shape ∷ []) rules left between one × ArePassages rules shapes between rest found

-- ---- shapes of an operation

-- a shape has asks for this operation
abbrev pub is_for : Operation → Shape → Bool
is_for operation shape = holds (operation_number operation) shape.operation.range

abbrev pub shapes_for : Operation → List Shape → List Shape
shapes_for operation shapes = filter (is_for operation) shapes

-- ---- requests and their answers

-- messages with these services that are routed from the network of a port, of this number, to another network
abbrev pub routed : Format → ℕ → Port → ℕ → Side → Shape
routed format number from to services =
    aimed format (bound (own format number from.network (is_manager from)) operations.Route services (only to))

-- requests that are answered, by their confirmed services (clause 21)
abbrev pub requests : Format → ℕ → Port → ℕ → Shape
requests format number from to = routed format number from to (numbers 0 255)

-- APDUs that are no requests, by their types (clause 20.1)
abbrev pub answers : Format → ℕ → Port → ℕ → Shape
answers format number from to = routed format number from to (numbers 1026 1031)

-- ---- requests without an object

-- a shape of reads or writes that name no object
abbrev pub is_unnamed : Shape → Bool
is_unnamed shape =
    (shape.operation.range.low == operation_number operations.Read
    || shape.operation.range.low == operation_number operations.Write)
    && not (has_number shape.object_type)

-- the asks of a shape that go to networks of these numbers
abbrev pub towards : Side → Shape → Shape
towards networks shape = record shape { destination_network = networks }

-- those that go to another network than the device's, which is below that or above it
abbrev pub beyond : ℕ → Shape → List Shape
beyond device shape =
    towards (numbers shape.destination_network.range.low (device - 1)) shape
    ∷ towards (numbers (device + 1) shape.destination_network.range.high) shape
    ∷ []

abbrev pub unnamed_of : ℕ → Shape → List Shape
unnamed_of device shape = if is_unnamed shape then beyond device shape else []

abbrev pub unnamed_shapes : ℕ → List Shape → List Shape
unnamed_shapes device shapes = flat_map (unnamed_of device) shapes
